-- A query has DISTINCT just where it stands behind the first SELECT.
use Rattle.std.proofs.Common.{◌≡◌, ℕ, Bool, true, false, List, [], ◌∷◌, Option, Some, None, refl, ◌∙◌, ap}
use Rattle.sparql_algebra.specs.declared.var.Var.{Var}
use Rattle.sparql_algebra.specs.declared.algebra.Query.{Query}
use Rattle.sparql_text.specs.declared.past.Form.TheVariants.{Unselected, Selected, Distinct, Plain}
use Rattle.sparql_text.specs.Tokens.{Token, Iri, Name, Variable, String, Fixed}
use Rattle.sparql_text.specs.Front.{Many}
use Rattle.sparql_text.specs.Scope.{Declaration, Scope, scope_of}
use Rattle.sparql_text.specs.Machine.{kind_of}
use Rattle.sparql_text.specs.Queries.{as_prefix, as_whole_iri, ReadsDeclaration, ReadsDistinct, ReadsColumns, IsQuery}
use Rattle.sparql_text.specs.Past.{form_behind, form_from, is_distinct}
use Rattle.sparql_text.proofs.Following.{variable_step}

-- once it is known, the form stays
stays_distinct : (tokens : List Token) → form_from Distinct tokens ≡ Distinct
stays_distinct [] = refl
stays_distinct (token ∷ tokens) = stays_distinct tokens

stays_plain : (tokens : List Token) → form_from Plain tokens ≡ Plain
stays_plain [] = refl
stays_plain (token ∷ tokens) = stays_plain tokens

-- a declaration has no SELECT
prefix_stays : (token : Token) (prefix : List ℕ) → as_prefix token ≡ Some prefix → form_behind Unselected (kind_of token) ≡ Unselected
prefix_stays (Iri iri) prefix e = refl
prefix_stays (Name other []) prefix e = refl
prefix_stays (Name other (byte ∷ local)) prefix e = refl
prefix_stays (Variable name) prefix e = refl
prefix_stays (String value) prefix e = refl
prefix_stays (Fixed w) prefix e = absurd (cc)

iri_stays : (token : Token) (iri : List ℕ) → as_whole_iri token ≡ Some iri → form_behind Unselected (kind_of token) ≡ Unselected
iri_stays (Iri other) iri e = refl
iri_stays (Name prefix []) iri e = refl
iri_stays (Name prefix (byte ∷ local)) iri e = refl
iri_stays (Variable name) iri e = refl
iri_stays (String value) iri e = refl
iri_stays (Fixed w) iri e = absurd (cc)

declarations_stay : (declarations : List Declaration) (tokens rest : List Token) → Many ReadsDeclaration declarations tokens rest
    → form_from Unselected tokens ≡ form_from Unselected rest
declarations_stay [] tokens rest x = ap (form_from Unselected) x
declarations_stay (declaration ∷ declarations) tokens rest x =
    let y = x.first in
    let z = y.second in
    ap (form_from Unselected) y.first
    ∙ (ap (form_from Unselected) z.first.2
    ∙ (ap (λ form. form_from form z.middle) (prefix_stays z.first.0 declaration.prefix z.first.1)
    ∙ (ap (form_from Unselected) z.second.2
    ∙ (ap (λ form. form_from form x.middle) (iri_stays z.second.0 declaration.iri z.second.1)
    ∙ declarations_stay declarations x.middle rest x.second))))

-- columns begin with another token than DISTINCT
columns_plain : (scope : Scope) (columns : Option (List Var)) (tokens rest : List Token) → ReadsColumns scope columns tokens rest → form_from Selected tokens ≡ Plain
columns_plain scope None tokens rest x = ap (form_from Selected) x ∙ stays_plain rest
columns_plain scope (Some []) tokens rest x = absurd x
columns_plain scope (Some (var ∷ vars)) tokens rest x =
    ap (form_from Selected) x.first.2
    ∙ (ap (λ kind. form_from (form_behind Selected kind) x.middle) (variable_step scope var x.first.0 x.first.1) ∙ stays_plain x.middle)

selected : (scope : Scope) (distinct : Bool) (columns : Option (List Var)) (tokens middle rest : List Token) → ReadsDistinct distinct tokens middle
    → ReadsColumns scope columns middle rest → is_distinct (form_from Selected tokens) ≡ distinct
selected scope true columns tokens middle rest d x = ap (λ t. is_distinct (form_from Selected t)) d ∙ ap is_distinct (stays_distinct middle)
selected scope false columns tokens middle rest d x = ap (λ t. is_distinct (form_from Selected t)) d ∙ ap is_distinct (columns_plain scope columns middle rest x)

-- the form of a query says whether it has DISTINCT
pub query_form : (distinct : Bool) (query : Query) (tokens : List Token) (q : IsQuery distinct query tokens) → is_distinct (form_from Unselected tokens) ≡ distinct
query_form distinct query tokens q =
    let x = q.reads in
    let y = x.second in
    let z = y.second in
    ap is_distinct (declarations_stay q.declarations tokens x.middle x.first)
    ∙ (ap (λ t. is_distinct (form_from Unselected t)) y.first ∙ selected (scope_of tokens) distinct q.columns y.middle z.middle z.second.middle z.first z.second.first)
