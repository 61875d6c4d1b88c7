-- A space: who joined, the links, the facts that are shared, and the standing queries.
use Rattle.std.specs.Prelude.{ℕ, ◌+◌, Bool, not, List, [], filter}
use Rattle.std.specs.List.{list_any}
use Rattle.std.specs.Str.{bytes_eq}
use Rattle.m3_terms.specs.Order.{text_cmp}
use Rattle.m3_terms.specs.Inserted.{inserted}
use Rattle.m3_terms.specs.declared.term.Term.{Term}
use Rattle.m3_terms.specs.declared.triple.Triple.{Triple}
use Rattle.link_table.specs.Links.{Link}
use Rattle.session_core.specs.Subscriptions.{Subscription, is_of}

-- a space: its name, the nodes that joined, in order and each once, all links that were ever opened, in that order, the
-- triples, in order and each once, the terms that were ever named, each once, how many updates were accepted, the
-- subscriptions that live, by rising number, and the last number that was given to one
pub record Space : Type 0 where
  pub name : List ℕ
  pub joined : List (List ℕ)
  pub links : List Link
  pub graph : List Triple
  pub named : List Term
  pub updates : ℕ
  pub subscriptions : List Subscription
  pub numbered : ℕ

-- the space of this name in which nothing happened
abbrev pub empty_space : List ℕ → Space
empty_space name = record { name = name; joined = []; links = []; graph = []; named = []; updates = 0; subscriptions = []; numbered = 0 }

-- a node is joined
abbrev pub is_member : Space → List ℕ → Bool
is_member space node = list_any (λ other. bytes_eq other node) space.joined

-- the space after a node joined; a node that is joined already stays so
abbrev pub with_node : Space → List ℕ → Space
with_node space node = record space { joined = inserted text_cmp node space.joined }

-- the space after a node left, with all of its subscriptions
abbrev pub without_node : Space → List ℕ → Space
without_node space node = record space {
  joined = filter (λ other. not (bytes_eq other node)) space.joined;
  subscriptions = filter (λ subscription. not (is_of node subscription)) space.subscriptions;
}

-- the space after an accepted update that leaves this graph and these named terms
abbrev pub updated : Space → List Triple → List Term → Space
updated space graph named = record space { graph = graph; named = named; updates = space.updates + 1 }

-- a space and how many calls made it
pub record State : Type 0 where
  pub space : Space
  pub count : ℕ
