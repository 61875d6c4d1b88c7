use Rattle.std.proofs.Common.{◌∙◌, ◌+◌, ◌≤◌, ap, filter_map, IfOk, IfErr, length, subst}
use Rattle.pattern_join.specs.Answers.{IsOverwide}
use Rattle.triple_index.specs.Graphs.{count_fitting}
use Rattle.session_core.specs.Answers.{fitting}
use Rattle.session_core.specs.Graph.{fits}
use Rattle.session_core.specs.Numbers.{pattern_in, graph_of}
use Rattle.session_core.specs.Prepared.{AreMatching}
use Rattle.session_core.proofs.AnswersAreMeant.{matched, matched_wide, matched_reads}
use Rattle.session_core.proofs.facts.Facts.matching.Goals as goal

pub returns-clause-matching : goal.returns-clause-matching
returns-clause-matching g c =
    subst (λ numbers. IfOk c.matches.result (AreMatching numbers c.args.templates.now)) c.self.view_is
    (matched _ c.args.templates.now c.self.invariant.1 _ _ c.matches.result
    (c.in_ok-ids.ensures ∙ ap (filter_map (pattern_in c.self.inside.terms.terms)) c.as_slice.ensures) c.plain-view.ensures c.matches.ensures.matches c.matches.ensures.narrow)

pub returns-clause-wide : goal.returns-clause-wide
returns-clause-wide g c =
    subst (λ numbers. IfErr c.matches.result (IsOverwide (length (fitting (graph_of numbers) c.args.templates.now)))) c.self.view_is
    (matched_wide _ c.args.templates.now c.self.invariant.1 _ _ c.matches.result
    (c.in_ok-ids.ensures ∙ ap (filter_map (pattern_in c.self.inside.terms.terms)) c.as_slice.ensures) c.plain-view.ensures c.matches.ensures.wide)

pub returns-clause-reads : goal.returns-clause-reads
returns-clause-reads g c =
    subst (λ numbers. c.matches.new.steps ≤ c.args.steps.now + count_fitting fits (graph_of numbers) c.args.templates.now) c.self.view_is
    (matched_reads _ c.args.templates.now c.self.invariant.1 _ _ _ _
    (c.in_ok-ids.ensures ∙ ap (filter_map (pattern_in c.self.inside.terms.terms)) c.as_slice.ensures) c.plain-view.ensures c.matches.ensures.reads)
