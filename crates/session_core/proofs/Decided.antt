-- The verdict on a request, in two steps: the ranks before query texts and limits, and then these.
use Rattle.std.proofs.Common.{◌≡◌, ℕ, Bool, true, false, not, List, [], ◌∷◌, ◌++◌, Option, Some, None, refl, sym, ap, ◌∙◌}
use Rattle.std.proofs.lemmas.Option.{same_Some}
use Rattle.std.specs.Option.{option_or, unwrap_or}
use Rattle.ssap_items.specs.declared.heads.Heads.{Heads}
use Rattle.ssap_shape.specs.declared.status.Status.{Status}
use Rattle.ssap_shape.specs.declared.status.Status.TheVariants.{Success, AccessDenied, Request as BadRequest}
use Rattle.ssap_shape.specs.declared.request.Ask.{Ask}
use Rattle.ssap_shape.specs.declared.request.Request.{Request}
use Rattle.ssap_shape.specs.declared.request.Arrived.TheVariants as arrived
use Rattle.session_core.specs.Space.{Space}
use Rattle.session_core.specs.Requests.{is_for, is_stranger, is_unfit, is_success, refuse, Rank, elsewhere, denied, unfit, unread, over, early_ranks, first_of, verdict, confirm}
use Rattle.session_core.specs.Queues.{queue}
use Rattle.session_core.specs.Steps.{decided, delivered}
use Rattle.session_core.specs.Ranks.{asking, passed}

or_assoc : {A : Type 0} (a b c : Option A) → option_or (option_or a b) c ≡ option_or a (option_or b c)
or_assoc None b c = refl
or_assoc (Some a) b c = refl

or_none : {A : Type 0} (a : Option A) → option_or a None ≡ a
or_none None = refl
or_none (Some a) = refl

-- the first of some ranks and of others is the first of the former, or else of the latter
pub first_of-append : (some others : List Rank) (space : Space) (request : Request)
    → first_of (some ++ others) space request ≡ option_or (first_of some space request) (first_of others space request)
first_of-append [] others space request = refl
first_of-append (rank ∷ some) others space request =
    ap (option_or (rank space request)) (first_of-append some others space request)
    ∙ sym (or_assoc (rank space request) (first_of some space request) (first_of others space request))

-- what a query text or a limit refuses
abbrev late : Space → Request → Option Status
late space request = option_or (unread space request) (over space request)

-- the verdict is that of the ranks before query texts and limits, or else of these
verdict_is : (space : Space) (request : Request) → verdict space request ≡ unwrap_or (option_or (first_of early_ranks space request) (late space request)) Success
verdict_is space request =
    ap (λ o. unwrap_or o Success) (first_of-append early_ranks (unread ∷ over ∷ []) space request
    ∙ ap (λ o. option_or (first_of early_ranks space request) (option_or (unread space request) o)) (or_none (over space request)))

-- a status that ranks give refuses
abbrev Refuses : Option Status → Type 0
Refuses found = (status : Status) → found ≡ Some status → is_success status ≡ false

refuse_refuses : (refuses : Bool) (status : Status) → is_success status ≡ false → Refuses (refuse refuses status)
refuse_refuses true status e other h = ap is_success (sym (same_Some status other h)) ∙ e
refuse_refuses false status e other h = cc

or_refuses : (a b : Option Status) → Refuses a → Refuses b → Refuses (option_or a b)
or_refuses None b f g = g
or_refuses (Some a) b f g = f

none_refuses : Refuses None
none_refuses status h = cc

early_refuses : (space : Space) (request : Request) → Refuses (first_of early_ranks space request)
early_refuses space request =
    or_refuses (elsewhere space request) _ (refuse_refuses (not (is_for space request.heads)) BadRequest refl)
    (or_refuses (denied space request) _ (refuse_refuses (is_stranger space request.heads request.ask) AccessDenied refl)
    (or_refuses (unfit space request) _ (refuse_refuses (is_unfit space request.heads request.ask) BadRequest refl) none_refuses))

-- a request that is refused changes nothing, and its confirm tells the status alone
pub decided_refused : (space : Space) (link : ℕ) (request : Request) (status : Status) → is_success status ≡ false
    → decided space link request status ≡ queue space link (Some (confirm request.heads status))
decided_refused space link request status e = rw e refl

-- a request that a rank before query texts and limits refuses is answered so, and nothing else happens
pub delivered_refused : (space : Space) (link : ℕ) (request : Request) (status : Status) → first_of early_ranks space request ≡ Some status
    → delivered space link (arrived.Request request) ≡ queue space link (Some (confirm request.heads status))
delivered_refused space link request status h =
    let same : verdict space request ≡ status = verdict_is space request ∙ ap (λ o. unwrap_or (option_or o (late space request)) Success) h in
    ap (decided space link request) same ∙ decided_refused space link request status (early_refuses space request status h)

-- a request that no rank before these refuses is granted, or refused by its query text or a limit
pub delivered_passed : (space : Space) (link : ℕ) (heads : Heads) (ask : Ask) → first_of early_ranks space (asking heads ask) ≡ None
    → delivered space link (arrived.Request (asking heads ask)) ≡ passed space link heads ask
delivered_passed space link heads ask h =
    ap (decided space link (asking heads ask))
    (verdict_is space (asking heads ask) ∙ ap (λ o. unwrap_or (option_or o (late space (asking heads ask))) Success) h)

-- of ranks of which none refuses, neither the first nor another does
none_first : (a b : Option Status) → option_or a b ≡ None → a ≡ None
none_first None b h = refl
none_first (Some a) b h = cc

none_later : (a b : Option Status) → option_or a b ≡ None → b ≡ None
none_later None b h = h
none_later (Some a) b h = cc

refuse_passes : (refuses : Bool) (status : Status) → refuse refuses status ≡ None → refuses ≡ false
refuse_passes true status h = cc
refuse_passes false status h = refl

-- what passes the ranks before query texts and limits can be done
pub passes_fit : (space : Space) (request : Request) → first_of early_ranks space request ≡ None → is_unfit space request.heads request.ask ≡ false
passes_fit space request h =
    let later = none_later (denied space request) _ (none_later (elsewhere space request) _ h) in
    refuse_passes (is_unfit space request.heads request.ask) BadRequest (none_first (unfit space request) _ later)
