use Rattle.std.proofs.Common.{◌∙◌, ap, sym, subst, filter_map}
use Rattle.session_core.specs.Numbers.{pattern_in}
use Rattle.session_core.specs.Watches.{asked_of, HasNamed}
use Rattle.session_core.proofs.WatchesAreStarted.{patterns_some}
use Rattle.session_core.proofs.watch.aim_of.Goals as goal

pub returns-in_ok-ids-in-Templates : goal.returns-in_ok-ids-in-Templates
returns-in_ok-ids-in-Templates g c =
    let terms = g.T.Listed.listed c.args.table.now in
    let templates = c.in-Templates.templates in
    record {
      is = ap asked_of (sym c.in-Templates.is);
      numbered = (
        c.in_ok-ids-in-Templates.ensures ∙ ap (filter_map (pattern_in terms)) c.as_slice.ensures,
        patterns_some terms templates (subst (λ asked. HasNamed terms (asked_of asked)) c.in-Templates.is c.requires.named),
      );
      may = tt;
    }
