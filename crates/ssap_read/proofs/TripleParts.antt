-- A triple is told from its parts.
use Rattle.std.proofs.Common.{ℕ, List, [], sym, ◌∙◌}
use Rattle.std.specs.Prelude.{⊤}
use Rattle.ssap_items.specs.declared.body.RawTerm.{RawTerm}
use Rattle.ssap_items.specs.declared.body.RawTriple.{RawTriple}
use Rattle.ssap_grammar.specs.Front.{Front}
use Rattle.ssap_grammar.specs.Characters.{Spaces}
use Rattle.ssap_grammar.specs.Triples.{ReadsSubject, ReadsPredicate, ReadsObject}
use Rattle.ssap_text.specs.Ends.{NoWhite, BeginsFinish}
use Rattle.ssap_read.specs.Told.{Whatever, IsOnly, IsNone}
use Rattle.ssap_read.specs.Attributes.{ReadsParts}
use Rattle.ssap_read.proofs.Tellings.{only_parts}
use Rattle.ssap_read.proofs.Around.{Around, Last, around_only, around_first_none, around_second_none, last_only}
use Rattle.ssap_grammar.proofs.Triples.{subject_opens, predicate_opens, object_opens}
use Rattle.ssap_grammar.proofs.Characters.{spaces_nothing}

-- the parts of a triple, from the last on
abbrev Objects : RawTerm × ⊤ → Front
Objects = Around ReadsObject Last

abbrev Predicates : List ℕ × (RawTerm × ⊤) → Front
Predicates = Around ReadsPredicate Objects

abbrev Subjects : RawTerm × (List ℕ × (RawTerm × ⊤)) → Front
Subjects = Around ReadsSubject Predicates

abbrev parts : RawTriple → RawTerm × (List ℕ × (RawTerm × ⊤))
parts triple = (triple.subject, (triple.predicate, (triple.object, tt)))

pub parts_only : (bytes a b c d e f rest : List ℕ) (s : RawTerm) (p : List ℕ) (o : RawTerm) → Spaces bytes a → NoWhite a → IsOnly ReadsSubject Whatever a s b
    → Spaces b c → NoWhite c → IsOnly ReadsPredicate Whatever c p d → Spaces d e → NoWhite e → IsOnly ReadsObject Whatever e o f
    → Spaces f rest → NoWhite rest → IsOnly ReadsParts BeginsFinish bytes (record { subject = s; predicate = p; object = o }) rest
parts_only bytes a b c d e f rest s p o sa na x sc nc y se ne z sr nr =
    only_parts Subjects BeginsFinish parts bytes rest (record { subject = s; predicate = p; object = o })
    (λ w h i. record { subject = (h i).0; predicate = (h i).1.0; object = (h i).1.1.0 })
    (around_only ReadsSubject Predicates BeginsFinish subject_opens bytes a b rest s (p, (o, tt)) sa na x
    (around_only ReadsPredicate Objects BeginsFinish predicate_opens b c d rest p (o, tt) sc nc y
    (around_only ReadsObject Last BeginsFinish object_opens d e f rest o tt se ne z (last_only f rest sr nr))))

pub subject_missing : (bytes a : List ℕ) → Spaces bytes a → NoWhite a → IsNone ReadsSubject Whatever a → IsNone ReadsParts BeginsFinish bytes
subject_missing bytes a sa na x w = around_first_none ReadsSubject Predicates BeginsFinish subject_opens bytes a sa na x (parts w)

pub predicate_missing : (bytes a b c : List ℕ) (s : RawTerm) → Spaces bytes a → NoWhite a → IsOnly ReadsSubject Whatever a s b
    → Spaces b c → NoWhite c → IsNone ReadsPredicate Whatever c → IsNone ReadsParts BeginsFinish bytes
predicate_missing bytes a b c s sa na x sc nc y w =
    around_second_none ReadsSubject Predicates BeginsFinish subject_opens bytes a b s sa na x
    (around_first_none ReadsPredicate Objects BeginsFinish predicate_opens b c sc nc y) (parts w)

pub object_missing : (bytes a b c d e : List ℕ) (s : RawTerm) (p : List ℕ) → Spaces bytes a → NoWhite a → IsOnly ReadsSubject Whatever a s b
    → Spaces b c → NoWhite c → IsOnly ReadsPredicate Whatever c p d → Spaces d e → NoWhite e → IsNone ReadsObject Whatever e → IsNone ReadsParts BeginsFinish bytes
object_missing bytes a b c d e s p sa na x sc nc y se ne z w =
    around_second_none ReadsSubject Predicates BeginsFinish subject_opens bytes a b s sa na x
    (around_second_none ReadsPredicate Objects BeginsFinish predicate_opens b c d p sc nc y
    (around_first_none ReadsObject Last BeginsFinish object_opens d e se ne z)) (parts w)

-- the content of a triple is not empty
pub parts_not_empty : (v : RawTriple) → ¬ (ReadsParts v [] [])
parts_not_empty v x =
    let e = spaces_nothing x.middle x.first in
    let o = subject_opens v.subject x.middle x.second.middle x.second.first in
    absurd (let p = sym e ∙ o.is in cc)
