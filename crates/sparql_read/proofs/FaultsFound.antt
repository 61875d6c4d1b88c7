-- The fault that is found first among tokens is the first that there is.
use Rattle.std.proofs.Common.{◌≡◌, ℕ, Bool, true, false, not, List, [], ◌∷◌, ◌++◌, Option, Some, None, refl, sym, ◌∙◌, ap, append_assoc}
use Rattle.std.specs.Prelude.{is_some}
use Rattle.std.specs.Option.{option_map, option_or}
use Rattle.std.proofs.lemmas.Bool.{both_ways, and_parts}
use Rattle.std.proofs.lemmas.List.{append-nil}
use Rattle.sparql_text.specs.declared.fault.ReadFault.{ReadFault}
use Rattle.sparql_text.specs.declared.fault.ReadFault.TheVariants as fault
use Rattle.sparql_text.specs.declared.fault.Limit.{Limit}
use Rattle.sparql_text.specs.Tokens.{Token, Iri, Name, Variable, String, Fixed}
use Rattle.sparql_text.specs.Scope.{declarations_of, iri_of}
use Rattle.sparql_text.specs.Lexing.{Placed}
use Rattle.sparql_text.specs.Machine.{stack_behind}
use Rattle.sparql_text.specs.Counts.{passed}
use Rattle.sparql_text.specs.Past.{ends_in_prefix}
use Rattle.sparql_text.specs.Faults.{IsUndeclared, IsInProfile, AreFine, alone}
use Rattle.sparql_text.specs.Faults.AreFine.{NoMore, Fine}
use Rattle.sparql_text.proofs.Completions.{takes_viable}
use Rattle.sparql_text.proofs.PastGrowing.{undeclared, declares}
use Rattle.sparql_read.specs.Reading.{is_undeclared, is_in_profile, fault_at, fault_in}

some_same : {a b : ReadFault} → Some a ≡ Some b → a ≡ b
some_same h = cc

none_some : {a : ReadFault} → Some a ≡ None → ⊥
none_some h = absurd (cc)

-- a token that is not declared is found so
undeclared_found : (before : List Token) (token : Token) → IsUndeclared before token → is_undeclared before token ≡ true
undeclared_found before (Name prefix local) u = go (ends_in_prefix before) refl
  where
    go : (t : Bool) → ends_in_prefix before ≡ t → is_undeclared before (Name prefix local) ≡ true
    go true e = absurd (declares before prefix local e u)
    go false e = rw (e, u.1) refl
undeclared_found before (Iri iri) u = absurd u
undeclared_found before (Variable name) u = absurd u
undeclared_found before (String value) u = absurd u
undeclared_found before (Fixed word) u = absurd u

-- and no other
undeclared_told : (before : List Token) (token : Token) → is_undeclared before token ≡ true → IsUndeclared before token
undeclared_told before (Name prefix local) h = go (ends_in_prefix before) refl (iri_of (declarations_of before) prefix) refl
  where
    go : (t : Bool) → ends_in_prefix before ≡ t → (o : Option (List ℕ)) → iri_of (declarations_of before) prefix ≡ o → IsUndeclared before (Name prefix local)
    go true e o f = absurd (both_ways (is_undeclared before (Name prefix local)) (rw e refl) h)
    go false e None f = undeclared before prefix local e f
    go false e (Some iri) f = absurd (both_ways (is_undeclared before (Name prefix local)) (rw (e, f) refl) h)
undeclared_told before (Iri iri) h = absurd (cc)
undeclared_told before (Variable name) h = absurd (cc)
undeclared_told before (String value) h = absurd (cc)
undeclared_told before (Fixed word) h = absurd (cc)

-- a token that is found in the profile is
in_profile : (before : List Token) (token : Token) → is_in_profile before token ≡ true → IsInProfile before token
in_profile before token e =
    let parts = and_parts (is_some (stack_behind (before ++ token ∷ []))) (not (is_undeclared before token)) e in
    record {
      viable = (takes_viable (before ++ token ∷ [])).1 parts.0;
      declared = λ u. both_ways (not (is_undeclared before token)) (ap not (undeclared_found before token u)) parts.1;
    }

-- and one that is in it is found so
profile_found : (before : List Token) (token : Token) → IsInProfile before token → is_in_profile before token ≡ true
profile_found before token p = go (is_undeclared before token) refl
  where
    some : is_some (stack_behind (before ++ token ∷ [])) ≡ true
    some = (takes_viable (before ++ token ∷ [])).0 p.viable

    go : (t : Bool) → is_undeclared before token ≡ t → is_in_profile before token ≡ true
    go true e = absurd (p.declared (undeclared_told before token e))
    go false e = rw (some, e) refl

pub out_of_profile : (before : List Token) (token : Token) → is_in_profile before token ≡ false → ¬ (IsInProfile before token)
out_of_profile before token e p = both_ways (is_in_profile before token) e (profile_found before token p)

-- what the fault of a token is
pub in_profile_at : (before : List Token) (placed : Placed) → IsInProfile before placed.token
    → fault_at before placed ≡ option_map (λ which. fault.OverLimit which placed.place) (passed before placed.token)
in_profile_at before placed p = let e = profile_found before placed.token p in rw e refl

pub out_of_profile_at : (before : List Token) (placed : Placed) → ¬ (IsInProfile before placed.token) → fault_at before placed ≡ Some (fault.NotInProfile placed.place)
out_of_profile_at before placed not_so = go (is_in_profile before placed.token) refl
  where
    go : (t : Bool) → is_in_profile before placed.token ≡ t → fault_at before placed ≡ Some (fault.NotInProfile placed.place)
    go true e = absurd (not_so (in_profile before placed.token e))
    go false e = rw e refl

-- why a token faults
pub data Why (before : List Token) (placed : Placed) (why : ReadFault) : Type 0 where
  Outside : ¬ (IsInProfile before placed.token) → why ≡ fault.NotInProfile placed.place → Why before placed why
  Over : (which : Limit) → IsInProfile before placed.token → passed before placed.token ≡ Some which → why ≡ fault.OverLimit which placed.place → Why before placed why

pub why_at : (before : List Token) (placed : Placed) (why : ReadFault) → fault_at before placed ≡ Some why → Why before placed why
why_at before placed why e = go (is_in_profile before placed.token) refl (passed before placed.token) refl
  where
    go : (t : Bool) → is_in_profile before placed.token ≡ t → (o : Option Limit) → passed before placed.token ≡ o → Why before placed why
    go false f o g = Outside (out_of_profile before placed.token f) (sym (some_same (sym (rw f refl) ∙ e)))
    go true f (Some which) g = Over which (in_profile before placed.token f) g (sym (some_same (sym (rw (f, g) refl) ∙ e)))
    go true f None g = absurd (none_some (sym e ∙ rw (f, g) refl))

-- among fine tokens no fault is found
pub fine_none : (before : List Token) (tokens : List Placed) → AreFine before tokens → fault_in before tokens ≡ None
fine_none b t (NoMore before) = refl
fine_none b t (Fine before placed tokens p n more) =
    ap (λ o. option_or o (fault_in (before ++ placed.token ∷ []) tokens)) (in_profile_at before placed p ∙ ap (option_map (λ which. fault.OverLimit which placed.place)) n)
    ∙ fine_none (before ++ placed.token ∷ []) tokens more

-- behind fine tokens the first fault is found
pub fault_first : (before : List Token) (tokens : List Placed) (placed : Placed) (others : List Placed) (why : ReadFault) → AreFine before tokens
    → fault_at (before ++ alone tokens) placed ≡ Some why → fault_in before (tokens ++ placed ∷ others) ≡ Some why
fault_first b t placed others why (NoMore before) e =
    ap (λ o. option_or o (fault_in (before ++ placed.token ∷ []) others)) (ap (λ l. fault_at l placed) (sym (append-nil before)) ∙ e)
fault_first b t placed others why (Fine before first tokens p n more) e =
    ap (λ o. option_or o (fault_in (before ++ first.token ∷ []) (tokens ++ placed ∷ others))) (in_profile_at before first p ∙ ap (option_map (λ which. fault.OverLimit which first.place)) n)
    ∙ fault_first (before ++ first.token ∷ []) tokens placed others why more (ap (λ l. fault_at l placed) (append_assoc before (first.token ∷ []) (alone tokens)) ∙ e)

-- the first fault among tokens, and those before and behind it
pub record Found (before : List Token) (tokens : List Placed) (why : ReadFault) : Type 0 where
  pub first : List Placed
  pub placed : Placed
  pub others : List Placed
  pub split : tokens ≡ first ++ placed ∷ others
  pub fine : AreFine before first
  pub at : fault_at (before ++ alone first) placed ≡ Some why

-- where none is found the tokens are fine
pub none_fine : (before : List Token) (tokens : List Placed) → fault_in before tokens ≡ None → AreFine before tokens
none_fine before [] e = NoMore before
none_fine before (placed ∷ tokens) e = go (λ h. none_fine (before ++ placed.token ∷ []) tokens h) (is_in_profile before placed.token) refl (passed before placed.token) refl
  where
    go : (fault_in (before ++ placed.token ∷ []) tokens ≡ None → AreFine (before ++ placed.token ∷ []) tokens) → (t : Bool) → is_in_profile before placed.token ≡ t
        → (o : Option Limit) → passed before placed.token ≡ o → AreFine before (placed ∷ tokens)
    go more false f o g =
        let found : fault_in before (placed ∷ tokens) ≡ Some (fault.NotInProfile placed.place) = rw f refl in
        absurd (none_some (sym found ∙ e))
    go more true f (Some which) g =
        let found : fault_in before (placed ∷ tokens) ≡ Some (fault.OverLimit which placed.place) = rw (f, g) refl in
        absurd (none_some (sym found ∙ e))
    go more true f None g = Fine before placed tokens (in_profile before placed.token f) g (more (sym (rw (f, g) refl) ∙ e))

-- and where one is it is the first
pub some_found : (before : List Token) (tokens : List Placed) (why : ReadFault) → fault_in before tokens ≡ Some why → Found before tokens why
some_found before [] why e = absurd (cc)
some_found before (placed ∷ tokens) why e = go (λ h. some_found (before ++ placed.token ∷ []) tokens why h) (fault_at before placed) refl
  where
    go : (fault_in (before ++ placed.token ∷ []) tokens ≡ Some why → Found (before ++ placed.token ∷ []) tokens why) → (o : Option ReadFault)
        → fault_at before placed ≡ o → Found before (placed ∷ tokens) why
    go rest (Some other) f = record {
      first = [];
      placed = placed;
      others = tokens;
      split = refl;
      fine = NoMore before;
      at = ap (λ l. fault_at l placed) (append-nil before) ∙ (f ∙ (sym (rw f refl) ∙ e));
    }
    go rest None f = more (rest (sym (rw f refl) ∙ e)) (fine_at f)
      where
        fine_at : fault_at before placed ≡ None → IsInProfile before placed.token × (passed before placed.token ≡ None)
        fine_at f = by (is_in_profile before placed.token) refl (passed before placed.token) refl
          where
            by : (t : Bool) → is_in_profile before placed.token ≡ t → (o : Option Limit) → passed before placed.token ≡ o
                → IsInProfile before placed.token × (passed before placed.token ≡ None)
            by false g o h =
                let found : fault_at before placed ≡ Some (fault.NotInProfile placed.place) = rw g refl in
                absurd (none_some (sym found ∙ f))
            by true g (Some which) h =
                let found : fault_at before placed ≡ Some (fault.OverLimit which placed.place) = rw (g, h) refl in
                absurd (none_some (sym found ∙ f))
            by true g None h = (in_profile before placed.token g, h)

        more : Found (before ++ placed.token ∷ []) tokens why → IsInProfile before placed.token × (passed before placed.token ≡ None) → Found before (placed ∷ tokens) why
        more x fine = record {
          first = placed ∷ x.first;
          placed = x.placed;
          others = x.others;
          split = ap (λ l. placed ∷ l) x.split;
          fine = Fine before placed x.first fine.0 fine.1 x.fine;
          at = ap (λ l. fault_at l x.placed) (sym (append_assoc before (placed.token ∷ []) (alone x.first))) ∙ x.at;
        }
