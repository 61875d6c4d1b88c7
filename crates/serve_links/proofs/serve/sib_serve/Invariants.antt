use Rattle.serve_links.proofs.serve.sib_serve.Given as goal

-- the counter's ledger is that of its blank
abbrev pub ghosts-counted : goal.ghosts-counted
ghosts-counted g a = record { name = a.blank.name; parts = a.blank.parts }
