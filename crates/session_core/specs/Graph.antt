-- Graphs of triples: which fit patterns, and what an update makes of a graph.
use Rattle.std.specs.Prelude.{◌≡◌, Bool, true, ◌&&◌, List, [], ◌∷◌, ◌++◌, filter_map, codes, refl}
use Rattle.std.specs.Option.{option_to_list}
use Rattle.m3_terms.specs.Order.{term_eq, triple_cmp}
use Rattle.m3_terms.specs.Pattern.{term_of, triple_of}
use Rattle.m3_terms.specs.declared.term.Term.{Term}
use Rattle.m3_terms.specs.declared.term.Term.TheVariants.{Uri, Literal}
use Rattle.m3_terms.specs.declared.triple.Triple.{Triple}
use Rattle.m3_terms.specs.declared.pattern.Slot.{Slot}
use Rattle.m3_terms.specs.declared.pattern.Slot.TheVariants.{Any, Is}
use Rattle.m3_terms.specs.declared.pattern.Pattern.{Pattern}
use Rattle.triple_index.specs.Graphs.{after, count_fitting}
use Rattle.m3_intern.specs.Interned.{fresh}

-- a slot of a pattern admits a term: it is the wildcard, or this term
abbrev pub admits : Slot → Term → Bool
admits Any term = true
admits (Is wanted) term = term_eq wanted term

-- a triple fits a pattern: each slot admits the term in its position
abbrev pub fits : Pattern → Triple → Bool
fits pattern triple = admits pattern.subject triple.subject && (admits pattern.predicate triple.predicate && admits pattern.object triple.object)

-- the triples that patterns are
abbrev pub triples_of : List Pattern → List Triple
triples_of patterns = filter_map triple_of patterns

-- the graph after an update: the triples that are inserted, and those that were there and fit no pattern that is removed
abbrev pub graph_after : List Triple → List Pattern → List Pattern → List Triple
graph_after graph remove insert = after triple_cmp fits graph remove (triples_of insert)

-- the term of a slot, unless it is the wildcard
abbrev pub terms_of_slot : Slot → List Term
terms_of_slot slot = option_to_list (term_of slot)

-- the terms of a pattern
abbrev pub terms_of_pattern : Pattern → List Term
terms_of_pattern pattern = terms_of_slot pattern.subject ++ (terms_of_slot pattern.predicate ++ terms_of_slot pattern.object)

-- the terms of patterns, one after another
abbrev pub terms_of : List Pattern → List Term
terms_of [] = []
terms_of (pattern ∷ patterns) = terms_of_pattern pattern ++ terms_of patterns

-- the terms that were named so far, with the new ones of more terms behind them
abbrev pub with_named : List Term → List Term → List Term
with_named named terms = named ++ fresh named terms

-- the lamp has a state
abbrev pub lamp_state : Term → Triple
lamp_state state = record { subject = Uri (codes "lamp"); predicate = Uri (codes "state"); object = state }

-- the state of the lamp
abbrev pub lamp_state_is : Slot → Pattern
lamp_state_is slot = record { subject = Is (Uri (codes "lamp")); predicate = Is (Uri (codes "state")); object = slot }

-- an update that replaces the state of the lamp removes first, so it may insert what fits
example_switched : graph_after (lamp_state (Literal (codes "on")) ∷ []) (lamp_state_is Any ∷ []) (lamp_state_is (Is (Literal (codes "off"))) ∷ [])
    ≡ lamp_state (Literal (codes "off")) ∷ []
example_switched = refl

-- an update that inserts what it removes keeps it
example_kept : graph_after (lamp_state (Literal (codes "on")) ∷ []) (lamp_state_is Any ∷ []) (lamp_state_is (Is (Literal (codes "on"))) ∷ [])
    ≡ lamp_state (Literal (codes "on")) ∷ []
example_kept = refl

-- a triple that fits two patterns is read twice
example_rows : count_fitting fits (lamp_state (Literal (codes "on")) ∷ []) (lamp_state_is Any ∷ lamp_state_is Any ∷ lamp_state_is (Is (Literal (codes "off"))) ∷ []) ≡ 2
example_rows = refl

-- of the terms of the lamp's state, the state alone is new where the lamp was named
example_named : with_named (Uri (codes "lamp") ∷ Uri (codes "state") ∷ []) (terms_of (lamp_state_is (Is (Literal (codes "on"))) ∷ []))
    ≡ Uri (codes "lamp") ∷ Uri (codes "state") ∷ Literal (codes "on") ∷ []
example_named = refl
