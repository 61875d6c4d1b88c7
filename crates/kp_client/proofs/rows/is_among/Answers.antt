-- A search among items in order finds what is among them.
use Rattle.std.proofs.Common.{◌∙◌}
use Rattle.answer_bodies.proofs.SearchDecides.{search_decides}
use Rattle.kp_client.proofs.rows.is_among.Goals as goal

pub returns : goal.returns
returns g c =
    c.is_ok.ensures.value
    ∙ search_decides g.met.T.Ord.total _ _ _ c.requires c.binary_search.ensures.bound c.binary_search.ensures.ok c.binary_search.ensures.position
