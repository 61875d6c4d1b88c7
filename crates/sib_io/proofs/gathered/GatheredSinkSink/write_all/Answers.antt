use Rattle.std.proofs.Common.{rules, ◌≡◌, sym, subst, [], List, ℕ, take, drop, take-append-drop}
use Rattle.std.specs.Io.KnownBytes.{Appends}
use Rattle.sib_io.specs.Gathered.{HandsOn}
use Rattle.sib_io.proofs.GatheredLemmas.{behind_kept}
use Rattle.sib_io.proofs.gathered.GatheredSinkSink.write_all.Goals as goal

-- where a large write fails, what the writer took is a prefix of it, behind all that was kept
pub returns-then-write_out-bytes-clause-bytes : goal.returns-then-write_out-bytes-clause-bytes
returns-then-write_out-bytes-clause-bytes g c =
    let count = c.write_out.result in
    let bytes = c.args.bytes.now in
    let before : c.put.new.self ≡ c.args.self.now.kept = search rules in
    let empty : c.write_to.new.self ≡ [] = search rules in
    let last : c.fail-then-write_out-bytes.new.self.kept ≡ [] = search rules in
    let contents = g.W.Write.contents in
    let handed = subst (λ (kept : List ℕ). HandsOn (contents c.args.self.now.inner) (contents c.write_to.new.writer) kept c.write_to.new.self) before c.write_to.ensures.bytes in
    let inner = c.fail-then-write_out-bytes.new.self.inner in
    let taken = subst (λ writer. Appends (contents c.write_to.new.writer) (contents writer) (take count bytes)) (sym c.fail-then-write_out-bytes.ensures.inner) c.write_out.ensures.taken in (
      take count bytes,
      drop count bytes,
      take-append-drop count bytes,
      behind_kept (contents c.args.self.now.inner) (contents c.write_to.new.writer) (contents inner) c.args.self.now.kept c.write_to.new.self
          c.fail-then-write_out-bytes.new.self.kept (take count bytes) handed empty taken last,
    )
