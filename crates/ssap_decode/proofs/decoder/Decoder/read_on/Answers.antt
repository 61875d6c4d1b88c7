-- A call takes what the message goes on with, and then the message waits, or a stop stands or the bytes end.
use Rattle.std.proofs.Common.{◌≡◌, inl, ◌+◌, ◌-◌, length, take, drop, subst, sym, refl, ◌∙◌, ap, Some, arith, false, true}
use Rattle.std.proofs.lemmas.List.{take_rest}
use Rattle.std.proofs.lemmas.Result.{err_from_is_err_and}
use Rattle.ssap_decode.specs.Decoding.{Feeds, Refuses}
use Rattle.ssap_decode.specs.Unfinished.{IsKept}
use Rattle.ssap_decode.specs.declared.framed.Framed.{Framed}
use Rattle.ssap_decode.specs.declared.framed.Stop.TheVariants.{NoMemory}
use Rattle.ssap_decode.specs.contracts.decoder.Decoder.{the_view}
use Rattle.ssap_decode.proofs.Spelled.{fresh_kept}
use Rattle.ssap_decode.proofs.Feeding.{fed, fed_longer, fed_back, fed_whole, fed_some, fed_kept, seen_of, ready_of, refused_long, refused_syntax, refused_memory, fields_message, fields_part, some_taken, seen_new}
use Rattle.ssap_decode.proofs.decoder.Decoder.read_on.Goals as goal

no_truth : false ≡ true → ⊥
no_truth e = cc

pub returns-then-length-gt-MESSAGE_LIMIT-clause-refused : goal.returns-then-length-gt-MESSAGE_LIMIT-clause-refused
returns-then-length-gt-MESSAGE_LIMIT-clause-refused c =
    let i = c.self.inside in
    let w = c.in-Ok in
    let bytes = c.args.bytes.now in
    let spaces = c.spaces_before-spaces.result in
    let old = c.len-old.ensures ∙ i.message.ok.0 in
    let long = c.len-length.ensures ∙ c.extend.new.message.ok.0 in
    let f = fed i.message.items c.deref.result.now bytes (take (length bytes - spaces) (drop spaces bytes)) c.piece_of-piece.result.now
    c.extend.new.message.items i.stack i.read spaces c.len-old.result w.walked c.self.invariant.unfinished c.deref.ensures.value
    c.spaces_before-spaces.ensures (take_rest bytes spaces) old c.piece_of-piece.ensures w.ensures.reads w.ensures.kept in
    let ready = ready_of (the_view i) c.args.self.now c.self.view_is c.requires.idle c.requires.sound in
    let back : c.truncate.new.self.items ≡ i.message.items =
    c.truncate.ensures.items ∙ (ap (λ k. take k c.extend.new.message.items) old ∙ fed_back i.message.items bytes c.extend.new.message.items spaces i.read w.walked f) in
    let above = c.if-length-gt-MESSAGE_LIMIT.true in
    subst (λ d. Refuses d bytes c.stop.new.self c.stop.result) c.self.view_is
    (refused_long (the_view i) (seen_of c.truncate.new.self.items i.waiting i.taken i.stopped) c.stop.new.self bytes c.extend.new.message.items spaces i.read w.walked
    c.stop.result ready (ap (λ u. seen_of u i.waiting i.taken i.stopped) back) c.self.invariant.fits c.self.invariant.inside f (omega (arith, long, above))
    c.stop.ensures.fault c.stop.ensures.stopped)

pub overflow_sub-count : goal.overflow_sub-count
overflow_sub-count c =
    let i = c.self.inside in
    let w = c.in-Ok in
    let bytes = c.args.bytes.now in
    let spaces = c.spaces_before-spaces.result in
    let old = c.len-old.ensures ∙ i.message.ok.0 in
    let long = c.len-length.ensures ∙ c.extend.new.message.ok.0 in
    let f = fed i.message.items c.deref.result.now bytes (take (length bytes - spaces) (drop spaces bytes)) c.piece_of-piece.result.now
    c.extend.new.message.items i.stack i.read spaces c.len-old.result w.walked c.self.invariant.unfinished c.deref.ensures.value
    c.spaces_before-spaces.ensures (take_rest bytes spaces) old c.piece_of-piece.ensures w.ensures.reads w.ensures.kept in
    omega (arith, old, long, fed_longer i.message.items bytes c.extend.new.message.items spaces i.read w.walked f)

pub whole_envelope-requires : goal.whole_envelope-requires
whole_envelope-requires c =
    let i = c.self.inside in
    let w = c.in-Ok in
    let bytes = c.args.bytes.now in
    let spaces = c.spaces_before-spaces.result in
    let old = c.len-old.ensures ∙ i.message.ok.0 in
    let long = c.len-length.ensures ∙ c.extend.new.message.ok.0 in
    let f = fed i.message.items c.deref.result.now bytes (take (length bytes - spaces) (drop spaces bytes)) c.piece_of-piece.result.now
    c.extend.new.message.items i.stack i.read spaces c.len-old.result w.walked c.self.invariant.unfinished c.deref.ensures.value
    c.spaces_before-spaces.ensures (take_rest bytes spaces) old c.piece_of-piece.ensures w.ensures.reads w.ensures.kept in
    fed_whole i.message.items bytes c.extend.new.message.items spaces i.read w.walked f c.in-Whole.is

pub invariant_of-self-in_err-envelope : goal.invariant_of-self-in_err-envelope
invariant_of-self-in_err-envelope c =
    let i = c.self.inside in
    let w = c.in-Ok in
    let bytes = c.args.bytes.now in
    let spaces = c.spaces_before-spaces.result in
    let old = c.len-old.ensures ∙ i.message.ok.0 in
    let long = c.len-length.ensures ∙ c.extend.new.message.ok.0 in
    let f = fed i.message.items c.deref.result.now bytes (take (length bytes - spaces) (drop spaces bytes)) c.piece_of-piece.result.now
    c.extend.new.message.items i.stack i.read spaces c.len-old.result w.walked c.self.invariant.unfinished c.deref.ensures.value
    c.spaces_before-spaces.ensures (take_rest bytes spaces) old c.piece_of-piece.ensures w.ensures.reads w.ensures.kept in
    let back : c.whole_envelope.new.message.items ≡ i.message.items =
    c.in_err-envelope.ensures.back ∙ (ap (λ k. take k c.extend.new.message.items) old ∙ fed_back i.message.items bytes c.extend.new.message.items spaces i.read w.walked f) in
    subst (λ m. IsKept m i.stack i.read i.taken) (sym back) c.self.invariant

pub returns-in_err-envelope-clause-refused : goal.returns-in_err-envelope-clause-refused
returns-in_err-envelope-clause-refused c =
    let i = c.self.inside in
    let w = c.in-Ok in
    let bytes = c.args.bytes.now in
    let spaces = c.spaces_before-spaces.result in
    let old = c.len-old.ensures ∙ i.message.ok.0 in
    let long = c.len-length.ensures ∙ c.extend.new.message.ok.0 in
    let f = fed i.message.items c.deref.result.now bytes (take (length bytes - spaces) (drop spaces bytes)) c.piece_of-piece.result.now
    c.extend.new.message.items i.stack i.read spaces c.len-old.result w.walked c.self.invariant.unfinished c.deref.ensures.value
    c.spaces_before-spaces.ensures (take_rest bytes spaces) old c.piece_of-piece.ensures w.ensures.reads w.ensures.kept in
    let back : c.whole_envelope.new.message.items ≡ i.message.items =
    c.in_err-envelope.ensures.back ∙ (ap (λ k. take k c.extend.new.message.items) old ∙ fed_back i.message.items bytes c.extend.new.message.items spaces i.read w.walked f) in
    let p = err_from_is_err_and c.from_residual.result c.from_residual.ensures.1 in
    let ready = ready_of (the_view i) c.args.self.now c.self.view_is c.requires.idle c.requires.sound in
    let fits = c.if-length-gt-MESSAGE_LIMIT.false in
    let new = seen_of c.whole_envelope.new.message.items i.waiting i.taken i.stopped in
    rw (p.1, p.2)
    (subst (λ d. Refuses d bytes new NoMemory) c.self.view_is
    (refused_memory (the_view i) new bytes c.extend.new.message.items spaces i.read w.walked ready (ap (λ u. seen_of u i.waiting i.taken i.stopped) back) f
    (omega (arith, long, fits)) (inl (fed_some i.message.items bytes c.extend.new.message.items spaces i.read w.walked f c.in-Whole.is))))

pub invariant_of-self-in-Whole : goal.invariant_of-self-in-Whole
invariant_of-self-in-Whole c = fresh_kept _ _ c.in_ok-envelope.ensures.emptied c.message-self-inside.ensures _

pub returns-in-Whole-clause-ok : goal.returns-in-Whole-clause-ok
returns-in-Whole-clause-ok c =
    let i = c.self.inside in
    let w = c.in-Ok in
    let bytes = c.args.bytes.now in
    let spaces = c.spaces_before-spaces.result in
    let old = c.len-old.ensures ∙ i.message.ok.0 in
    let long = c.len-length.ensures ∙ c.extend.new.message.ok.0 in
    let f = fed i.message.items c.deref.result.now bytes (take (length bytes - spaces) (drop spaces bytes)) c.piece_of-piece.result.now
    c.extend.new.message.items i.stack i.read spaces c.len-old.result w.walked c.self.invariant.unfinished c.deref.ensures.value
    c.spaces_before-spaces.ensures (take_rest bytes spaces) old c.piece_of-piece.ensures w.ensures.reads w.ensures.kept in
    let n : c.spaces_before-spaces.result + (c.len-length.result - c.len-old.result) ≡ spaces + (length c.extend.new.message.items - length i.message.items) =
    ap (λ k. spaces + (k - c.len-old.result)) long ∙ ap (λ k. spaces + (length c.extend.new.message.items - k)) old in
    let ready = ready_of (the_view i) c.args.self.now c.self.view_is c.requires.idle c.requires.sound in
    let count = (c.spaces_before-spaces.result + (c.len-length.result - c.len-old.result)) in
    let framed : Framed = record { start = i.taken + count - c.len-length.result; end = i.taken + count; envelope = c.in_ok-envelope.envelope } in
    let fits = c.if-length-gt-MESSAGE_LIMIT.false in
    subst (λ d. Feeds d bytes count (seen_of c.whole_envelope.new.message.items (Some framed) (i.taken + count) i.stopped)) c.self.view_is
    (fields_message i.message.items bytes c.extend.new.message.items c.whole_envelope.new.message.items i.waiting i.taken count spaces i.read i.stopped w.walked
    framed ready c.self.invariant.inside f c.in-Whole.is n (omega (arith, long, fits)) c.in_ok-envelope.ensures.spelled c.in_ok-envelope.ensures.emptied refl
    (ap (λ k. i.taken + count - k) long))

pub invariant_of-self-then-none_taken : goal.invariant_of-self-then-none_taken
invariant_of-self-then-none_taken c =
    let i = c.self.inside in
    let w = c.in-Ok in
    let bytes = c.args.bytes.now in
    let spaces = c.spaces_before-spaces.result in
    let old = c.len-old.ensures ∙ i.message.ok.0 in
    let long = c.len-length.ensures ∙ c.extend.new.message.ok.0 in
    let f = fed i.message.items c.deref.result.now bytes (take (length bytes - spaces) (drop spaces bytes)) c.piece_of-piece.result.now
    c.extend.new.message.items i.stack i.read spaces c.len-old.result w.walked c.self.invariant.unfinished c.deref.ensures.value
    c.spaces_before-spaces.ensures (take_rest bytes spaces) old c.piece_of-piece.ensures w.ensures.reads w.ensures.kept in
    let n : c.spaces_before-spaces.result + (c.len-length.result - c.len-old.result) ≡ spaces + (length c.extend.new.message.items - length i.message.items) =
    ap (λ k. spaces + (k - c.len-old.result)) long ∙ ap (λ k. spaces + (length c.extend.new.message.items - k)) old in
    let fits = c.if-length-gt-MESSAGE_LIMIT.false in
    fed_kept i.message.items bytes c.extend.new.message.items spaces i.read i.taken (c.spaces_before-spaces.result + (c.len-length.result - c.len-old.result)) w.walked f c.in_default-halt.not-Whole
    c.self.invariant.inside (omega (arith, long, fits)) n

pub invariant_of-self-else-none_taken : goal.invariant_of-self-else-none_taken
invariant_of-self-else-none_taken c =
    let i = c.self.inside in
    let w = c.in-Ok in
    let bytes = c.args.bytes.now in
    let spaces = c.spaces_before-spaces.result in
    let old = c.len-old.ensures ∙ i.message.ok.0 in
    let long = c.len-length.ensures ∙ c.extend.new.message.ok.0 in
    let f = fed i.message.items c.deref.result.now bytes (take (length bytes - spaces) (drop spaces bytes)) c.piece_of-piece.result.now
    c.extend.new.message.items i.stack i.read spaces c.len-old.result w.walked c.self.invariant.unfinished c.deref.ensures.value
    c.spaces_before-spaces.ensures (take_rest bytes spaces) old c.piece_of-piece.ensures w.ensures.reads w.ensures.kept in
    let n : c.spaces_before-spaces.result + (c.len-length.result - c.len-old.result) ≡ spaces + (length c.extend.new.message.items - length i.message.items) =
    ap (λ k. spaces + (k - c.len-old.result)) long ∙ ap (λ k. spaces + (length c.extend.new.message.items - k)) old in
    let fits = c.if-length-gt-MESSAGE_LIMIT.false in
    fed_kept i.message.items bytes c.extend.new.message.items spaces i.read i.taken (c.spaces_before-spaces.result + (c.len-length.result - c.len-old.result)) w.walked f c.in_default-halt.not-Whole
    c.self.invariant.inside (omega (arith, long, fits)) n

pub returns-then-none_taken-clause-refused : goal.returns-then-none_taken-clause-refused
returns-then-none_taken-clause-refused c =
    let i = c.self.inside in
    let w = c.in-Ok in
    let bytes = c.args.bytes.now in
    let spaces = c.spaces_before-spaces.result in
    let old = c.len-old.ensures ∙ i.message.ok.0 in
    let long = c.len-length.ensures ∙ c.extend.new.message.ok.0 in
    let f = fed i.message.items c.deref.result.now bytes (take (length bytes - spaces) (drop spaces bytes)) c.piece_of-piece.result.now
    c.extend.new.message.items i.stack i.read spaces c.len-old.result w.walked c.self.invariant.unfinished c.deref.ensures.value
    c.spaces_before-spaces.ensures (take_rest bytes spaces) old c.piece_of-piece.ensures w.ensures.reads w.ensures.kept in
    let n : c.spaces_before-spaces.result + (c.len-length.result - c.len-old.result) ≡ spaces + (length c.extend.new.message.items - length i.message.items) =
    ap (λ k. spaces + (k - c.len-old.result)) long ∙ ap (λ k. spaces + (length c.extend.new.message.items - k)) old in
    let ready = ready_of (the_view i) c.args.self.now c.self.view_is c.requires.idle c.requires.sound in
    let count = (c.spaces_before-spaces.result + (c.len-length.result - c.len-old.result)) in
    let none = c.if-none_taken.ensures.0 refl in
    let stop = c.stop-then-none_taken in
    subst (λ d. Refuses d bytes stop.new.self stop.result) c.self.view_is
    (refused_syntax (the_view i) (seen_of c.extend.new.message.items i.waiting (i.taken + count) i.stopped) stop.new.self bytes c.extend.new.message.items spaces i.read
    count w.walked stop.result ready f c.in_default-halt.not-Whole n none.0 none.1
    (seen_new i.message.items c.extend.new.message.items i.waiting i.waiting i.taken (i.taken + count) i.stopped ready) stop.ensures.fault stop.ensures.stopped)

pub returns-clause-ok : goal.returns-clause-ok
returns-clause-ok c =
    let i = c.self.inside in
    let w = c.in-Ok in
    let bytes = c.args.bytes.now in
    let spaces = c.spaces_before-spaces.result in
    let old = c.len-old.ensures ∙ i.message.ok.0 in
    let long = c.len-length.ensures ∙ c.extend.new.message.ok.0 in
    let f = fed i.message.items c.deref.result.now bytes (take (length bytes - spaces) (drop spaces bytes)) c.piece_of-piece.result.now
    c.extend.new.message.items i.stack i.read spaces c.len-old.result w.walked c.self.invariant.unfinished c.deref.ensures.value
    c.spaces_before-spaces.ensures (take_rest bytes spaces) old c.piece_of-piece.ensures w.ensures.reads w.ensures.kept in
    let n : c.spaces_before-spaces.result + (c.len-length.result - c.len-old.result) ≡ spaces + (length c.extend.new.message.items - length i.message.items) =
    ap (λ k. spaces + (k - c.len-old.result)) long ∙ ap (λ k. spaces + (length c.extend.new.message.items - k)) old in
    let ready = ready_of (the_view i) c.args.self.now c.self.view_is c.requires.idle c.requires.sound in
    let count = (c.spaces_before-spaces.result + (c.len-length.result - c.len-old.result)) in
    let fits = c.if-length-gt-MESSAGE_LIMIT.false in
    subst (λ d. Feeds d bytes count (seen_of c.extend.new.message.items i.waiting (i.taken + count) i.stopped)) c.self.view_is
    (fields_part i.message.items bytes c.extend.new.message.items i.waiting i.taken count spaces i.read i.stopped w.walked ready c.self.invariant.fits f
    c.in_default-halt.not-Whole n (omega (arith, long, fits)) (some_taken count bytes (λ h. no_truth (c.if-none_taken.ensures.1 h))))
