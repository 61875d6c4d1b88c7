-- What a server does: it opens a link for each connection, and begins two jobs for it.
use Rattle.std.specs.Prelude.{◌≡◌, ◌⊎◌, ◌↔◌, ℕ, List, [], ◌∷◌, ◌++◌, Option, Some, None, Result, Ok, Err, ◌*◌, ⊤}
use Rattle.sib_io.specs.Causes.{Rose}
use Rattle.sib_io.specs.Connections.{Took, Added}
use Rattle.atomic_table.specs.Seated.{TableId}
use Rattle.session_core.specs.declared.call.Call.TheVariants.{NewLink, Lost}
use Rattle.session_core.specs.declared.call.Reply.{Reply}
use Rattle.session_core.specs.declared.call.Reply.TheVariants as reply
use Rattle.space_shared.specs.Exchanges.{SeatSight, Exchange, exchange, Makes}
use Rattle.serve_links.specs.declared.job.Half.{Half}
use Rattle.serve_links.specs.declared.job.Half.TheVariants.{In, Out}
use Rattle.serve_links.specs.declared.served.ServeEnd.{ServeEnd}
use Rattle.serve_links.specs.declared.served.ServeEnd.TheVariants.{Ended, AcceptFault, NoThread, Worn, NoMemory}

-- what is seen of a job: the turn of its space, its link, and its half of the connection, which says whether it pumps in or out
pub record JobSight (I O : Type 0) : Type 0 where
  pub turn : TableId
  pub link : ℕ
  pub half : Half I O

-- what is seen outside of a server: the connections that wait and the jobs that were begun, where these are told, and the counts of faults of the two
pub record Outside (I O : Type 0) : Type 0 where
  pub waiting : Option (List (I × O))
  pub begun : Option (List (JobSight I O))
  pub accepts : ℕ
  pub starts : ℕ

-- the history is worn exactly where the last look found it full: where it was free and had as many calls as it may have
abbrev pub WornExactly : ServeEnd → ℕ → Type 0
WornExactly end found = (count : ℕ) → (end ≡ Worn count) ↔ ((found ≡ 2 * count) × (count ≡ 4611686018427387904))

-- the last look did not find it so
abbrev pub HasRoom : ℕ → Type 0
HasRoom found = (count : ℕ) → (found ≡ 2 * count) × (count ≡ 4611686018427387904) → ⊥

module _ {I O : Type 0} where
  abbrev pub outside : Option (List (I × O)) → Option (List (JobSight I O)) → ℕ → ℕ → Outside I O
  outside waiting begun accepts starts = record { waiting = waiting; begun = begun; accepts = accepts; starts = starts }

  -- the job that pumps the input of a link, and the one that pumps its output
  abbrev pub input_job : TableId → ℕ → I × O → JobSight I O
  input_job turn link connection = record { turn = turn; link = link; half = In connection.0 }

  abbrev pub output_job : TableId → ℕ → I × O → JobSight I O
  output_job turn link connection = record { turn = turn; link = link; half = Out connection.1 }

  -- the jobs that a connection gives rise to, by the reply to the call that opens its link
  abbrev pub jobs_by : TableId → I × O → Reply → List (JobSight I O)
  jobs_by turn connection (reply.Opened link) = input_job turn link connection ∷ output_job turn link connection ∷ []
  jobs_by turn connection (reply.TooManyLinks count) = []
  jobs_by turn connection (reply.Done ring) = []
  jobs_by turn connection reply.Closed = []
  jobs_by turn connection reply.NoLink = []
  jobs_by turn connection (reply.Message message) = []
  jobs_by turn connection reply.Empty = []
  jobs_by turn connection reply.Over = []

  -- a link was asked for, once for each of these connections and in their order, and the jobs are those that follow, both of each link that opened
  abbrev pub AreServed : TableId → List (I × O) → List Exchange → List (JobSight I O) → Type 0
  AreServed turn [] [] jobs = jobs ≡ []
  AreServed turn [] (one ∷ said) jobs = ⊥
  AreServed turn (connection ∷ connections) [] jobs = ⊥
  AreServed turn (connection ∷ connections) (one ∷ said) jobs = (one.call ≡ NewLink)
      × (others : List (JobSight I O)) × (jobs ≡ jobs_by turn connection one.reply ++ others) × AreServed turn connections said others

  -- of the two jobs of a link at most the first was begun
  abbrev pub AreSome : TableId → ℕ → I × O → List (JobSight I O) → Type 0
  AreSome turn link connection some = (some ≡ []) ⊎ (some ≡ input_job turn link connection ∷ [])

  -- all of the connections but the last were served, and a link opened for that one, whose jobs were not both begun
  pub record LeavesLast (turn : TableId) (connections : List (I × O)) (said : List Exchange) (jobs : List (JobSight I O)) (link : ℕ) : Type 0 where
    pub before : List (I × O)
    pub last : I × O
    pub some : List Exchange
    pub whole : List (JobSight I O)
    pub part : List (JobSight I O)
    pub split : connections ≡ before ++ last ∷ []
    pub calls : said ≡ some ++ exchange NewLink (reply.Opened link) ∷ []
    pub served : AreServed turn before some whole
    pub begun : jobs ≡ whole ++ part
    pub are : AreSome turn link last part

  -- all of the connections but the last were served, and no link was opened for that one
  pub record DropsLast (turn : TableId) (connections : List (I × O)) (said : List Exchange) (jobs : List (JobSight I O)) : Type 0 where
    pub before : List (I × O)
    pub last : I × O
    pub split : connections ≡ before ++ last ∷ []
    pub served : AreServed turn before said jobs

  -- these are all of the connections that waited, where they are told
  abbrev pub AreAll : Option (List (I × O)) → List (I × O) → Type 0
  AreAll None connections = ⊤
  AreAll (Some waiting) connections = waiting ≡ connections

  -- no fault was counted
  abbrev pub KeepsCounts : Outside I O → Outside I O → Type 0
  KeepsCounts old new = (new.accepts ≡ old.accepts) × (new.starts ≡ old.starts)

  -- what holds at each end, of the connections that were taken, the calls that were made, and the jobs that were begun
  abbrev pub EndsSo : TableId → Outside I O → Outside I O → List (I × O) → List Exchange → List (JobSight I O) → ServeEnd → Type 0
  EndsSo turn old new connections said jobs Ended = KeepsCounts old new × AreAll old.waiting connections × AreServed turn connections said jobs
  EndsSo turn old new connections said jobs AcceptFault = Rose old.accepts new.accepts × (new.starts ≡ old.starts) × AreServed turn connections said jobs
  EndsSo turn old new connections said jobs NoThread = (new.accepts ≡ old.accepts) × Rose old.starts new.starts
      × (opens : List Exchange) × (link : ℕ) × (answer : Reply) × (said ≡ opens ++ exchange (Lost link) answer ∷ []) × LeavesLast turn connections opens jobs link
  EndsSo turn old new connections said jobs (Worn count) = (new.accepts ≡ old.accepts)
      × (((new.starts ≡ old.starts) × DropsLast turn connections said jobs)
      ⊎ (Rose old.starts new.starts × (link : ℕ) × LeavesLast turn connections said jobs link))
  EndsSo turn old new connections said jobs NoMemory = KeepsCounts old new
      × (DropsLast turn connections said jobs ⊎ ((link : ℕ) × LeavesLast turn connections said jobs link))

  -- a server has taken some connections, made some calls by a seat that had seen nothing, and begun the jobs that follow; and no fault was counted
  pub record Serving (name : List ℕ) (old now : Outside I O) (seat : SeatSight) : Type 0 where
    pub first : SeatSight
    pub connections : List (I × O)
    pub said : List Exchange
    pub jobs : List (JobSight I O)
    pub root : first.root ≡ name
    pub fresh : (first.seen ≡ []) × (first.mine ≡ [])
    pub makes : Makes first said seat
    pub took : Took old.waiting now.waiting connections
    pub began : Added old.begun now.begun jobs
    pub counts : KeepsCounts old now
    pub served : AreServed seat.turn connections said jobs
    pub room : HasRoom seat.found

  -- nothing outside changed
  abbrev pub Untouched : Outside I O → Outside I O → Type 0
  Untouched old new = KeepsCounts old new × Took old.waiting new.waiting [] × Added old.begun new.begun []

  -- a server took some connections, made some calls by a seat that had seen nothing, and began some jobs
  pub record Works (name : List ℕ) (old new : Outside I O) (end : ServeEnd) (later : SeatSight) : Type 0 where
    pub first : SeatSight
    pub connections : List (I × O)
    pub said : List Exchange
    pub jobs : List (JobSight I O)
    pub root : first.root ≡ name
    pub fresh : (first.seen ≡ []) × (first.mine ≡ [])
    pub makes : Makes first said later
    pub took : Took old.waiting new.waiting connections
    pub began : Added old.begun new.begun jobs
    pub ends : EndsSo later.turn old new connections said jobs end
    pub worn : WornExactly end later.found

  -- it serves on, or has ended
  abbrev pub ServesOn : {T : Type 0} → List ℕ → Outside I O → Outside I O → Result T ServeEnd → SeatSight → Type 0
  ServesOn name old new (Ok value) later = Serving name old new later
  ServesOn name old new (Err end) later = Works name old new end later

  -- what holds of a server, with the seat of its own calls; it has none only out of memory, and then nothing was done
  abbrev pub Serves : List ℕ → Outside I O → Outside I O → ServeEnd → Option SeatSight → Type 0
  Serves name old new end None = (end ≡ NoMemory) × Untouched old new
  Serves name old new end (Some later) = Works name old new end later
