-- A call that begins a message takes what the machine reads of the piece, and then the message waits, or a stop stands or
-- the bytes end.
use Rattle.std.proofs.Common.{◌≡◌, ◌⊎◌, ◌<◌, inl, inr, arith, ◌+◌, ◌-◌, ◌++◌, length, take, drop, subst, sym, refl, ◌∙◌, ap, Some, [], false, true}
use Rattle.std.proofs.lemmas.List.{take_rest}
use Rattle.std.proofs.lemmas.Result.{err_from_is_err_and}
use Rattle.ssap_decode.specs.Decoding.{Decoding, Feeds, Refuses}
use Rattle.ssap_decode.specs.declared.framed.Framed.{Framed}
use Rattle.ssap_decode.specs.declared.framed.Stop.TheVariants.{NoMemory}
use Rattle.ssap_decode.specs.contracts.decoder.Decoder.{the_view}
use Rattle.ssap_decode.proofs.Feeding.{fed_whole, fed_some, seen_of, seen_new, ready_of, refused_dead, refused_memory, fields_message, fields_part, some_taken}
use Rattle.ssap_decode.proofs.Beginning.{begun, begun_count, begun_kept}
use Rattle.ssap_decode.proofs.decoder.Decoder.read_first.Goals as goal

no_truth : false ≡ true → ⊥
no_truth e = cc

pub envelope_of-requires : goal.envelope_of-requires
envelope_of-requires c =
    let i = c.self.inside in
    let walked = c.walk-walked.result in
    let bytes = c.args.bytes.now in
    let spaces = c.spaces_before-spaces.result in
    let piece = c.piece_of-piece.result.now in
    let result = take walked.reach piece in
    let none : i.message.items ≡ [] = ap (λ (d : Decoding). d.unread) c.self.view_is ∙ c.requires.empty in
    let b = begun i.message.items c.deref.result.now bytes (take (length bytes - spaces) (drop spaces bytes)) piece result i.stack i.read spaces c.len.result walked
    c.self.invariant.unfinished none c.deref.ensures.value c.spaces_before-spaces.ensures (take_rest bytes spaces) (c.len.ensures ∙ i.message.ok.0) c.piece_of-piece.ensures
    c.walk-walked.ensures (ap (λ l. l ++ take walked.reach piece) (sym none)) in
    fed_whole i.message.items bytes result spaces i.read walked b.fed c.in-Whole.is

pub returns-in-Whole-clause-ok : goal.returns-in-Whole-clause-ok
returns-in-Whole-clause-ok c =
    let i = c.self.inside in
    let walked = c.walk-walked.result in
    let bytes = c.args.bytes.now in
    let spaces = c.spaces_before-spaces.result in
    let piece = c.piece_of-piece.result.now in
    let result = take walked.reach piece in
    let none : i.message.items ≡ [] = ap (λ (d : Decoding). d.unread) c.self.view_is ∙ c.requires.empty in
    let b = begun i.message.items c.deref.result.now bytes (take (length bytes - spaces) (drop spaces bytes)) piece result i.stack i.read spaces c.len.result walked
    c.self.invariant.unfinished none c.deref.ensures.value c.spaces_before-spaces.ensures (take_rest bytes spaces) (c.len.ensures ∙ i.message.ok.0) c.piece_of-piece.ensures
    c.walk-walked.ensures (ap (λ l. l ++ take walked.reach piece) (sym none)) in
    let count = spaces + walked.reach in
    let n = begun_count i.message.items bytes result spaces i.read walked b in
    let ready = ready_of (the_view i) c.args.self.now c.self.view_is c.requires.idle c.requires.sound in
    let framed : Framed = record { start = i.taken + count - walked.reach; end = i.taken + count; envelope = c.in_ok-envelope.envelope } in
    subst (λ d. Feeds d bytes count (seen_of i.message.items (Some framed) (i.taken + count) i.stopped)) c.self.view_is
    (fields_message i.message.items bytes result i.message.items i.waiting i.taken count spaces i.read i.stopped walked framed ready c.self.invariant.inside b.fed
    c.in-Whole.is n b.fits c.in_ok-envelope.ensures none refl (ap (λ k. i.taken + count - k) (sym b.size)))

pub returns-in_err-envelope-clause-refused : goal.returns-in_err-envelope-clause-refused
returns-in_err-envelope-clause-refused c =
    let i = c.self.inside in
    let walked = c.walk-walked.result in
    let bytes = c.args.bytes.now in
    let spaces = c.spaces_before-spaces.result in
    let piece = c.piece_of-piece.result.now in
    let result = take walked.reach piece in
    let none : i.message.items ≡ [] = ap (λ (d : Decoding). d.unread) c.self.view_is ∙ c.requires.empty in
    let b = begun i.message.items c.deref.result.now bytes (take (length bytes - spaces) (drop spaces bytes)) piece result i.stack i.read spaces c.len.result walked
    c.self.invariant.unfinished none c.deref.ensures.value c.spaces_before-spaces.ensures (take_rest bytes spaces) (c.len.ensures ∙ i.message.ok.0) c.piece_of-piece.ensures
    c.walk-walked.ensures (ap (λ l. l ++ take walked.reach piece) (sym none)) in
    let ready = ready_of (the_view i) c.args.self.now c.self.view_is c.requires.idle c.requires.sound in
    let p = err_from_is_err_and c.from_residual.result c.from_residual.ensures.1 in
    rw (p.1, p.2)
    (subst (λ d. Refuses d bytes c.args.self.now NoMemory) c.self.view_is
    (refused_memory (the_view i) c.args.self.now bytes result spaces i.read walked ready (sym c.self.view_is) b.fed b.fits
    (inl (fed_some i.message.items bytes result spaces i.read walked b.fed c.in-Whole.is))))

pub returns-then-none_taken-clause-refused : goal.returns-then-none_taken-clause-refused
returns-then-none_taken-clause-refused c =
    let i = c.self.inside in
    let walked = c.walk-walked.result in
    let bytes = c.args.bytes.now in
    let spaces = c.spaces_before-spaces.result in
    let piece = c.piece_of-piece.result.now in
    let result = take walked.reach piece in
    let none : i.message.items ≡ [] = ap (λ (d : Decoding). d.unread) c.self.view_is ∙ c.requires.empty in
    let b = begun i.message.items c.deref.result.now bytes (take (length bytes - spaces) (drop spaces bytes)) piece result i.stack i.read spaces c.len.result walked
    c.self.invariant.unfinished none c.deref.ensures.value c.spaces_before-spaces.ensures (take_rest bytes spaces) (c.len.ensures ∙ i.message.ok.0) c.piece_of-piece.ensures
    c.walk-walked.ensures (ap (λ l. l ++ take walked.reach piece) (sym none)) in
    let count = spaces + walked.reach in
    let n = begun_count i.message.items bytes result spaces i.read walked b in
    let ready = ready_of (the_view i) c.args.self.now c.self.view_is c.requires.idle c.requires.sound in
    let nothing = c.if-none_taken.ensures.0 refl in
    subst (λ d. Refuses d bytes c.stop.new.self c.stop.result) c.self.view_is
    (refused_dead (the_view i) c.args.self.now c.stop.new.self bytes result spaces i.read count walked c.stop.result
    ready b.fed c.in_default.not-Whole n nothing.0 nothing.1 (sym c.self.view_is) c.stop.ensures.fault c.stop.ensures.stopped)

pub returns-in_err-extend_from_slice-clause-refused : goal.returns-in_err-extend_from_slice-clause-refused
returns-in_err-extend_from_slice-clause-refused c =
    let i = c.self.inside in
    let walked = c.walk-walked.result in
    let bytes = c.args.bytes.now in
    let spaces = c.spaces_before-spaces.result in
    let piece = c.piece_of-piece.result.now in
    let result = take walked.reach piece in
    let none : i.message.items ≡ [] = ap (λ (d : Decoding). d.unread) c.self.view_is ∙ c.requires.empty in
    let b = begun i.message.items c.deref.result.now bytes (take (length bytes - spaces) (drop spaces bytes)) piece result i.stack i.read spaces c.len.result walked
    c.self.invariant.unfinished none c.deref.ensures.value c.spaces_before-spaces.ensures (take_rest bytes spaces) (c.len.ensures ∙ i.message.ok.0) c.piece_of-piece.ensures
    c.walk-walked.ensures (ap (λ l. l ++ take walked.reach piece) (sym none)) in
    let count = spaces + walked.reach in
    let n = begun_count i.message.items bytes result spaces i.read walked b in
    let ready = ready_of (the_view i) c.args.self.now c.self.view_is c.requires.idle c.requires.sound in
    let p = err_from_is_err_and c.from_residual-in_err-extend_from_slice.result c.from_residual-in_err-extend_from_slice.ensures.1 in
    let back : c.extend_from_slice.new.self.items ≡ i.message.items = c.in_err-extend_from_slice.ensures.items in
    let new = seen_of c.extend_from_slice.new.self.items i.waiting i.taken i.stopped in
    let some : (0 < count) ⊎ (bytes ≡ []) = some_taken count bytes (λ h. no_truth (c.if-none_taken.ensures.1 h)) in
    rw (p.1, p.2)
    (subst (λ d. Refuses d bytes new NoMemory) c.self.view_is
    (refused_memory (the_view i) new bytes result spaces i.read walked ready (ap (λ u. seen_of u i.waiting i.taken i.stopped) back) b.fed b.fits
    (elim some [ inl p ↦ inl (omega (arith, p, n)) | inr none ↦ inr none ])))

pub invariant_of-self-2 : goal.invariant_of-self-2
invariant_of-self-2 c =
    let i = c.self.inside in
    let walked = c.walk-walked.result in
    let bytes = c.args.bytes.now in
    let spaces = c.spaces_before-spaces.result in
    let piece = c.piece_of-piece.result.now in
    let result = c.extend_from_slice.new.self.items in
    let none : i.message.items ≡ [] = ap (λ (d : Decoding). d.unread) c.self.view_is ∙ c.requires.empty in
    let b = begun i.message.items c.deref.result.now bytes (take (length bytes - spaces) (drop spaces bytes)) piece result i.stack i.read spaces c.len.result walked
    c.self.invariant.unfinished none c.deref.ensures.value c.spaces_before-spaces.ensures (take_rest bytes spaces) (c.len.ensures ∙ i.message.ok.0) c.piece_of-piece.ensures
    c.walk-walked.ensures c.in_ok-extend_from_slice.ensures.items in
    begun_kept i.message.items bytes result spaces i.read i.taken walked b c.in_default.not-Whole c.self.invariant.inside

pub returns-clause-ok : goal.returns-clause-ok
returns-clause-ok c =
    let i = c.self.inside in
    let walked = c.walk-walked.result in
    let bytes = c.args.bytes.now in
    let spaces = c.spaces_before-spaces.result in
    let piece = c.piece_of-piece.result.now in
    let result = c.extend_from_slice.new.self.items in
    let none : i.message.items ≡ [] = ap (λ (d : Decoding). d.unread) c.self.view_is ∙ c.requires.empty in
    let b = begun i.message.items c.deref.result.now bytes (take (length bytes - spaces) (drop spaces bytes)) piece result i.stack i.read spaces c.len.result walked
    c.self.invariant.unfinished none c.deref.ensures.value c.spaces_before-spaces.ensures (take_rest bytes spaces) (c.len.ensures ∙ i.message.ok.0) c.piece_of-piece.ensures
    c.walk-walked.ensures c.in_ok-extend_from_slice.ensures.items in
    let count = spaces + walked.reach in
    let n = begun_count i.message.items bytes result spaces i.read walked b in
    let ready = ready_of (the_view i) c.args.self.now c.self.view_is c.requires.idle c.requires.sound in
    subst (λ d. Feeds d bytes count (seen_of result i.waiting (i.taken + count) i.stopped)) c.self.view_is
    (fields_part i.message.items bytes result i.waiting i.taken count spaces i.read i.stopped walked ready c.self.invariant.fits b.fed c.in_default.not-Whole n
    b.fits (some_taken count bytes (λ h. no_truth (c.if-none_taken.ensures.1 h))))
