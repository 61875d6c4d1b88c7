-- What holds of a space whenever a call is done.
use Rattle.std.specs.Prelude.{◌≡◌, ◌≢◌, ℕ, List, Some}
use Rattle.std.specs.List.Sorted.{IsStrictlySortedBy}
use Rattle.m3_terms.specs.Order.{text_cmp}
use Rattle.link_table.specs.Links.{Link, link_at}
use Rattle.link_table.specs.declared.state.LinkState.TheVariants.{Never}
use Rattle.session_core.specs.Space.{Space}

-- the links that have a number were opened
abbrev pub AllOpened : List Link → Type 0
AllOpened links = (number : ℕ) (link : Link) → link_at links number ≡ Some link → link.state ≢ Never

-- nodes are in order, each once, and each link was opened
pub record IsKept (space : Space) : Type 0 where
  pub joined : IsStrictlySortedBy text_cmp space.joined
  pub opened : AllOpened space.links
