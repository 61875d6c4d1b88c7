-- Triples of which those that are among others are dropped.
use Rattle.std.proofs.Common.{◌≡◌, sym, subst, rules}
use Rattle.std.proofs.lemmas.Fn.{filter_same}
use Rattle.std.proofs.lemmas.List.Kept.{IsStrictlySortedBy-filter}
use Rattle.triple_index.specs.Changes.{AreOrdered}
use Rattle.triple_index.specs.Graphs.{without}
use Rattle.triple_index.specs.IdOrder.{id_triple_cmp, id_triple_eq}
use Rattle.triple_index.specs.Parts.{IsRest}
use Rattle.triple_index.proofs.Closing.{stays}
use Rattle.triple_index.proofs.Nets.{without_rest}
use Rattle.triple_index.proofs.change.rest_of.Goals as goal

pub returns-clause-ordered : goal.returns-clause-ordered
returns-clause-ordered c =
    let left : c.retain.new.self.items ≡ without id_triple_eq c.args.triples.items c.args.others.now =
    filter_same _ (stays c.args.others.now) _ (λ x b g k. search rules) _ _ c.retain.ensures.filtered in
    subst AreOrdered (sym left) (IsStrictlySortedBy-filter id_triple_cmp (stays c.args.others.now) c.args.triples.items c.requires.ordered)

pub returns-clause-rest : goal.returns-clause-rest
returns-clause-rest c =
    let left : c.retain.new.self.items ≡ without id_triple_eq c.args.triples.items c.args.others.now =
    filter_same _ (stays c.args.others.now) _ (λ x b g k. search rules) _ _ c.retain.ensures.filtered in
    subst (IsRest c.args.triples.items c.args.others.now) (sym left) (without_rest c.args.triples.items c.args.others.now)
