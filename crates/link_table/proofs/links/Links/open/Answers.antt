use Rattle.std.proofs.Common.{◌+◌, refl, sym, ap, ◌∙◌, inl, inr, arith, ◌++◌, ◌∷◌, []}
use Rattle.slab.specs.Slab.{slab_len}
use Rattle.link_table.specs.Links.{new_link}
use Rattle.link_table.specs.Table.{links_to}
use Rattle.link_table.proofs.LinkLemmas.{length-links_to, is_full-true, is_full-false}
use Rattle.link_table.proofs.TableLemmas.{IsTable-slots, Keeps-indexed, numbers_given, Adds, Adds-indexed, Adds-links}
use Rattle.link_table.proofs.links.Links.open.Goals as goal
use Rattle.link_table.proofs.links.Links.open.Goals.{then-len-ge-LINK_LIMIT-via-then-len-ge-LINK_LIMIT, then-len-ge-LINK_LIMIT-via-else-len-ge-LINK_LIMIT+then-self}

pub returns-then-len-ge-LINK_LIMIT-clause-ok : goal.returns-then-len-ge-LINK_LIMIT-clause-ok
returns-then-len-ge-LINK_LIMIT-clause-ok c =
    let links = links_to c.self.inside.slots.slots c.self.inside.opened in
    let full = is_full-true links in
    rw (← c.self.view_is) (
      elim c.then-len-ge-LINK_LIMIT.branch [
        | then-len-ge-LINK_LIMIT-via-then-len-ge-LINK_LIMIT w ↦ full (inl (omega (arith, c.self.invariant.0.all_counted, c.len.ensures, w.if-len-ge-LINK_LIMIT.true)))
        | then-len-ge-LINK_LIMIT-via-else-len-ge-LINK_LIMIT+then-self w ↦ full (inr (omega (arith, length-links_to c.self.inside.slots.slots c.self.inside.opened, w.if-self.true)))
      ],
      refl,
    )

pub invariant_of-self : goal.invariant_of-self
invariant_of-self c =
    let kept = ap (λ slots. slots.slots) c.reserve.ensures.rest_kept in
    Keeps-indexed c.self.inside.slots c.reserve.new.self c.self.inside.opened c.self.inside.index c.self.inside.index kept refl c.self.invariant

pub push-requires-clause-last : goal.push-requires-clause-last
push-requires-clause-last c = numbers_given _ _ _ c.self.invariant.0 c.self.invariant.1

-- the slots and the index stay where there was no memory for the index
pub invariant_of-self-in_err-push : goal.invariant_of-self-in_err-push
invariant_of-self-in_err-push c =
    let kept = ap (λ slots. slots.slots) c.reserve.ensures.rest_kept in
    Keeps-indexed c.self.inside.slots c.reserve.new.self c.self.inside.opened c.self.inside.index c.push.new.self kept c.in_err-push.ensures.err c.self.invariant

-- the entry of the link that opens is put into an empty slot
adds : (c : goal.After-self-1) → Adds c.reserve.new.self c.insert_reserved.new.self c.self.inside.opened c.insert_reserved.result c.new.result
adds c =
    let kept = ap (λ slots. slots.slots) c.reserve.ensures.rest_kept in
    let same_len = ap (λ slots. slab_len slots) c.reserve.ensures.rest_kept in
    record {
      table = IsTable-slots c.self.inside.slots c.reserve.new.self c.self.inside.opened kept c.self.invariant.0;
      vacant = c.insert_reserved.ensures.was_vacant;
      updates = c.insert_reserved.ensures.updates;
      len = c.insert_reserved.ensures.len;
      below = omega (arith, same_len, c.len.ensures, c.if-len-ge-LINK_LIMIT.false);
      last = omega (arith, c.self.invariant.0.numbered, c.if-self.false);
      number = c.new.ensures.number;
      link = c.new.ensures.link;
      sound = c.new.ensures.sound;
    }

-- the key of the index is that of the slot that is filled
pub invariant_of-self-2 : goal.invariant_of-self-2
invariant_of-self-2 c =
    let kept = ap (λ slots. slots.slots) c.reserve.ensures.rest_kept in
    let same_key = c.vacant_key.ensures.value ∙ sym c.insert_reserved.ensures.key in
    let is = (Keeps-indexed c.self.inside.slots c.reserve.new.self c.self.inside.opened c.self.inside.index c.self.inside.index kept refl c.self.invariant).1 in
    Adds-indexed _ _ _ _ _ (adds c) c.self.inside.index c.push.new.self is (c.in_ok-push.ensures.ok ∙ ap (λ key. c.self.inside.index ++ (c.self.inside.opened + 1, key) ∷ []) same_key)

pub returns-clause-ok : goal.returns-clause-ok
returns-clause-ok c =
    let slots = c.self.inside.slots.slots in
    let opened = c.self.inside.opened in
    let few = c.self.invariant.0.all_counted in
    let long = length-links_to slots opened in
    let kept = ap (λ slots. slots.slots) c.reserve.ensures.rest_kept in
    rw (← c.self.view_is) (
      is_full-false (links_to slots opened) (omega (arith, few, c.len.ensures, c.if-len-ge-LINK_LIMIT.false)) (omega (arith, long, c.if-self.false)),
      omega (arith, long),
      Adds-links _ _ _ _ _ (adds c) ∙ ap (λ slots. links_to slots opened ++ new_link ∷ []) kept,
    )
