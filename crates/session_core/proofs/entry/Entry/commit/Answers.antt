use Rattle.std.proofs.Common.{◌≡◌, Some, refl, subst}
use Rattle.session_core.specs.Entries.{IsNext}
use Rattle.session_core.specs.declared.entry.Due.TheVariants.{Nothing}
use Rattle.session_core.proofs.entry.Entry.commit.Goals as goal

pub returns-in-Some : goal.returns-in-Some
returns-in-Some c =
    let is : c.args.self.now.next ≡ Some c.in-Some.step = cc in
    record {
      number = refl;
      digits = refl;
      link = refl;
      node = refl;
      transaction = refl;
      sequence = refl;
      ended = refl;
      due = refl;
      wanted = c.commit.ensures.wanted;
      stands = λ numbers h. c.commit.ensures.stands numbers (subst (λ next. IsNext numbers c.args.self.now.watch next Nothing) is h);
    }
