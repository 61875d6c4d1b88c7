use Rattle.std.proofs.Common.{◌∙◌}
use Rattle.triple_index.proofs.Searches.{search_decides}
use Rattle.triple_index.proofs.list.is_among.Goals as goal

pub returns : goal.returns
returns c = c.is_ok.ensures.value ∙ search_decides _ _ _ c.requires c.binary_search.ensures.bound c.binary_search.ensures.ok c.binary_search.ensures.position
