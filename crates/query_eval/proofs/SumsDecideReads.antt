-- How many triples are read for a graph pattern depends on what functions sum up to over the graph, and so not on its order.
use Rattle.std.proofs.Common.{◌≡◌, [], List, sum_by}
use Rattle.m3_terms.specs.declared.triple.Triple.{Triple}
use Rattle.sparql_algebra.specs.declared.algebra.Algebra.{Algebra}
use Rattle.pattern_join.proofs.SumsDecideScans.{HaveSameSums, same_scan}
use Rattle.query_eval.specs.Reads.{bgps, reads}

pub same_reads : (one other : List Triple) → HaveSameSums one other → (pattern : Algebra) → reads pattern one ≡ reads pattern other
same_reads one other same pattern = λ i. sum_by (λ patterns. same_scan one other same patterns [] i) (bgps pattern)
