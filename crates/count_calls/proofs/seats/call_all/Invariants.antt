use Rattle.count_calls.proofs.seats.call_all.Given as goal

-- the ledger is that of its blank
abbrev pub ghosts-counted : goal.ghosts-counted
ghosts-counted g a = record { name = a.blank.name; parts = a.blank.parts }
