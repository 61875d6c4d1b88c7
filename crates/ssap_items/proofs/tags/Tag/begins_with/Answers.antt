-- A starting tag begins as its name does, and a finishing one with `/` and then as its name does.
use Rattle.std.proofs.Common.{◌≡◌, ◌∷◌, ◌∙◌, ap}
use Rattle.ssap_items.proofs.TagLaws.{start_begins, finish_begins, all_begin}
use Rattle.ssap_items.proofs.tags.Tag.begins_with.Goals as goal

pub returns-in-Start : goal.returns-in-Start
returns-in-Start c =
    start_begins _ _ c.args.prefix.now c.as_bytes.result.now _ c.in-Start.is c.as_bytes.ensures c.starts_with.ensures.value

pub returns-then-first-eq47 : goal.returns-then-first-eq47
returns-then-first-eq47 c =
    let e : c.args.prefix.now ≡ 47 ∷ c.in-Some.rest.now = c.in-Some.ensures.cases.0 ∙ ap (λ b. b ∷ c.in-Some.rest.now) c.if-first-eq47.true in
    finish_begins _ _ c.args.prefix.now c.in-Some.rest.now c.as_bytes-then-first-eq47.result.now _ c.in-Finish.is c.as_bytes-then-first-eq47.ensures e
    c.starts_with-then-first-eq47.ensures.value

pub returns-in-None : goal.returns-in-None
returns-in-None c = all_begin c.args.self c.args.prefix.now c.in-None.ensures.cases
