-- Confirms, indications and counts, worked out.
use Rattle.std.specs.Prelude.{◌≡◌, true, false, [], ◌∷◌, ◌++◌, codes, refl}
use Rattle.std.specs.Fmt.{digits}
use Rattle.sib_replay.specs.Lines.{Sends, Finds}
use Rattle.replay_trial.specs.Replies.{confirm_front, indication_front, is_confirm, replies_in}
use Rattle.replay_trial.specs.Trial.{counts_line}

-- a confirm is told by its first bytes
confirm_begins : is_confirm (codes "<SSAP_message><message_type>CONFIRM</message_type><transaction_type>JOIN</transaction_type>") ≡ true
unfolding confirm_front
confirm_begins = refl

-- an indication is none
indication_begins : is_confirm (codes "<SSAP_message><message_type>INDICATION</message_type><transaction_type>SUBSCRIBE</transaction_type>") ≡ false
unfolding confirm_front
indication_begins = refl

-- a confirm and two indications, on two links, and the line of a link that isn't open
three_messages : replies_in (Sends 1 (codes "<SSAP_message><message_type>CONFIRM</message_type>") ∷ Sends 2 (codes "<SSAP_message><message_type>INDICATION</message_type>")
    ∷ Finds 3 ∷ Sends 1 (codes "<SSAP_message><message_type>INDICATION</message_type>") ∷ []) ≡ record { confirms = 1; indications = 2 }
unfolding confirm_front indication_front
three_messages = refl

-- the counts of the script with one update
counts_of_one : counts_line (record { confirms = 52; indications = 10 }) ≡ codes "confirms 52 indications 10" ++ 10 ∷ []
unfolding counts_line digits
counts_of_one = refl
