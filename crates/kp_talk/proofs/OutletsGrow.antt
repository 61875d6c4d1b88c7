-- What two steps write and print together.
use Rattle.std.proofs.Common.{◌≡◌, ◌∙◌, sym, refl, subst, inl, inr, List, [], ◌∷◌, ◌++◌, ℕ, Option, Some, None, append-nil}
use Rattle.std.specs.Io.KnownBytes.{Appends, Keeps}
use Rattle.std.proofs.KnownBytes.{Appends-nil, Appends-trans, Keeps-refl}
use Rattle.std.proofs.lemmas.Grind.{flat_map-append}
use Rattle.sib_io.specs.Causes.{Rose, AppendsPart}
use Rattle.sib_io.proofs.KnownLemmas.{appends_kept, part_kept, kept_part, whole_part, part_after, part_of_more}
use Rattle.ssap_shape.specs.declared.request.Request.{Request}
use Rattle.kp_talk.specs.Talk.{Line, Talk}
use Rattle.kp_talk.specs.Lines.{request_bytes, line_bytes, written, printed}
use Rattle.kp_talk.specs.Stages.{behind}
use Rattle.kp_talk.specs.Saying.{Outlets, Says, SaysPart, IsCause, requests_bytes, lines_bytes}
use Rattle.kp_talk.specs.Turn.{Stays}
use Rattle.kp_talk.specs.declared.ending.Ending.{Ending}
use Rattle.kp_talk.specs.declared.ending.Ending.TheVariants.{Finished, ReadFault, WriteFault, NoMemory, Spent}

-- nothing was written or printed
pub says_nothing : (now : Outlets) → Says now now [] []
says_nothing now = record { written = Appends-nil now.written; printed = Appends-nil now.printed; writes = refl; prints = refl }

-- that is a part of all
pub nothing_part : (now : Outlets) (requests lines : List ℕ) → SaysPart now now requests lines
nothing_part now requests lines = record {
  written = kept_part now.written now.written requests (Keeps-refl now.written);
  printed = kept_part now.printed now.printed lines (Keeps-refl now.printed);
}

-- two steps say the bytes of both
pub says_then : (a b c : Outlets) (requests others lines after : List ℕ) → Says a b requests lines → Says b c others after → Says a c (requests ++ others) (lines ++ after)
says_then a b c requests others lines after first then = record {
  written = Appends-trans a.written b.written c.written requests others first.written then.written;
  printed = Appends-trans a.printed b.printed c.printed lines after first.printed then.printed;
  writes = then.writes ∙ first.writes;
  prints = then.prints ∙ first.prints;
}

-- bytes, and then a part of others, are a part of both
pub part_then : (a b c : Outlets) (requests others lines after : List ℕ) → Says a b requests lines → SaysPart b c others after → SaysPart a c (requests ++ others) (lines ++ after)
part_then a b c requests others lines after first then = record {
  written = part_after a.written b.written c.written requests others first.written then.written;
  printed = part_after a.printed b.printed c.printed lines after first.printed then.printed;
}

-- a part of the lines is a part of more lines
pub part_more : (a b : Outlets) (requests lines after : List ℕ) → SaysPart a b requests lines → SaysPart a b requests (lines ++ after)
part_more a b requests lines after part = record { written = part.written; printed = part_of_more a.printed b.printed lines after part.printed }

-- the requests and lines of two steps are said one after another
pub says_both : (a b c : Outlets) (requests others : List Request) (lines after : List Line) → Says a b (requests_bytes requests) (lines_bytes lines)
    → Says b c (requests_bytes others) (lines_bytes after) → Says a c (requests_bytes (requests ++ others)) (lines_bytes (lines ++ after))
says_both a b c requests others lines after first then =
    subst (λ l. Says a c l (lines_bytes (lines ++ after))) (sym (flat_map-append request_bytes requests others))
    (subst (λ l. Says a c (requests_bytes requests ++ requests_bytes others) l) (sym (flat_map-append line_bytes lines after))
    (says_then a b c (requests_bytes requests) (requests_bytes others) (lines_bytes lines) (lines_bytes after) first then))

-- what was said, and a part of the rest of a talk, are a part of the talk
pub part_behind : (a b c : Outlets) (requests : List Request) (lines : List Line) (talk rest : Talk) → talk ≡ behind requests lines rest
    → Says a b (requests_bytes requests) (lines_bytes lines) → SaysPart b c (written rest) (printed rest) → SaysPart a c (written talk) (printed talk)
part_behind a b c requests lines talk rest is said part =
    subst (λ t. SaysPart a c (written t) (printed t)) (sym is)
    (subst (λ l. SaysPart a c l (printed (behind requests lines rest))) (sym (flat_map-append request_bytes requests rest.requests))
    (subst (λ l. SaysPart a c (requests_bytes requests ++ written rest) l) (sym (flat_map-append line_bytes lines rest.lines))
    (part_then a b c (requests_bytes requests) (written rest) (lines_bytes lines) (printed rest) said part)))

-- what fails behind steps that fail not has the same cause
pub cause_then : (a b c : Outlets) (ending : Ending) → b.writes ≡ a.writes → b.prints ≡ a.prints → IsCause b c ending → IsCause a c ending
cause_then a b c (Finished finish) writes prints cause = absurd cause
cause_then a b c ReadFault writes prints cause = absurd cause
cause_then a b c Spent writes prints cause = absurd cause
cause_then a b c WriteFault writes prints (inl rose) = inl (subst (λ n. Rose n c.writes) writes rose)
cause_then a b c WriteFault writes prints (inr rose) = inr (subst (λ n. Rose n c.prints) prints rose)
cause_then a b c NoMemory writes prints (w, p) = (w ∙ writes, p ∙ prints)

-- what was said stays as it is handed on
pub says_kept : (a b c : Outlets) (requests lines : List ℕ) → Says a b requests lines → Stays b c → c.writes ≡ b.writes → c.prints ≡ b.prints → Says a c requests lines
says_kept a b c requests lines says kept writes prints = record {
  written = appends_kept a.written b.written c.written requests says.written kept.written;
  printed = appends_kept a.printed b.printed c.printed lines says.printed kept.printed;
  writes = writes ∙ says.writes;
  prints = prints ∙ says.prints;
}

-- so does a part of it
pub part_stays : (a b c : Outlets) (requests lines : List ℕ) → SaysPart a b requests lines → Stays b c → SaysPart a c requests lines
part_stays a b c requests lines part kept = record {
  written = part_kept a.written b.written c.written requests part.written kept.written;
  printed = part_kept a.printed b.printed c.printed lines part.printed kept.printed;
}

-- all that was said is a part of it
pub whole_says : (a b : Outlets) (requests lines : List ℕ) → Says a b requests lines → SaysPart a b requests lines
whole_says a b requests lines says = record {
  written = whole_part a.written b.written requests says.written;
  printed = whole_part a.printed b.printed lines says.printed;
}

-- a part of nothing leaves bytes as they were
nothing_kept : (a b : Option (List ℕ)) → AppendsPart a b [] → Keeps a b
nothing_kept a b (part, rest, none, appends) = go part none appends
  where
    kept : (x y : Option (List ℕ)) → Appends x y [] → Keeps x y
    kept None y is = tt
    kept (Some x) None is = absurd is
    kept (Some x) (Some y) is = is ∙ append-nil x

    go : (part : List ℕ) → part ++ rest ≡ [] → Appends a b part → Keeps a b
    go [] none is = kept a b is
    go (byte ∷ part) none is = absurd (cc)

-- it leaves both outlets so
pub nothing_stays : (a b : Outlets) → SaysPart a b [] [] → Stays a b
nothing_stays a b part = record { written = nothing_kept a.written b.written part.written; printed = nothing_kept a.printed b.printed part.printed }
