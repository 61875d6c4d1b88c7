use Rattle.std.proofs.Common.{◌∙◌, ap}
use Rattle.triple_index.specs.Changes.{Graph}
use Rattle.triple_index.specs.Graphs.{fits_one}
use Rattle.triple_index.specs.IdOrder.{id_triple_eq}
use Rattle.triple_index.proofs.Searches.{among_is}
use Rattle.triple_index.proofs.index.Index.contains.Goals as goal

pub returns : goal.returns
returns c =
    among_is c.args.self.now.triples c.args.triple.now _
    (c.is_among.ensures ∙ ap (λ l. fits_one id_triple_eq l c.args.triple.now) (c.as_slice.ensures.value ∙ ap (λ (v : Graph). v.triples) c.self.view_is))
