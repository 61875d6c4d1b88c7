use Rattle.std.proofs.Common.{◌≡◌, ℕ, ap, ◌∙◌, take, arith}
use Rattle.std.proofs.lemmas.Grind.{common_steps}
use Rattle.std.specs.List.{flat_map}
use Rattle.slab.specs.Slab.{get}
use Rattle.link_table.specs.Links.{open_links}
use Rattle.link_table.specs.Table.{open_in}
use Rattle.link_table.proofs.OpenLinksByIndex.{open_links-index}
use Rattle.link_table.proofs.links.Links.open_links.Goals as goal

-- all pairs were passed, so what was found is what is open of the index
pub returns : goal.returns
returns c =
    let i = c.self.inside in
    let pairs = c.pairs-pairs.result.now in
    let all : take c.loop-pair.pair-index pairs ≡ pairs = grind (arith, common_steps, c.loop-pair-test.false) in
    c.loop-pair.invariant.open_so_far
    ∙ ap (flat_map (λ (pair : ℕ × ℕ). open_in (get i.slots pair.1))) (all ∙ c.pairs-pairs.ensures.value)
    ∙ open_links-index i.slots i.opened i.index c.self.invariant.0 c.self.invariant.1 c.pairs-pairs.ensures.rise
    ∙ ap open_links c.self.view_is
