use Rattle.space_shared.proofs.incoming.pump_in.Given as goal

-- the counter's ledger is that of its blank
abbrev pub ghosts-counted : goal.ghosts-counted
ghosts-counted g a = record { name = a.blank.name; parts = a.blank.parts }
