-- A part of a message goes on to the whole one, and a byte that goes on with none ends every stream.
use Rattle.ssap_grammar.proofs.StreamParts.{part_whole, part_inside, dead_end, dead_place}
use Rattle.ssap_grammar.proofs.laws.parts_are_inside.Goals as goal

pub returns-clause-inside : goal.returns-clause-inside
returns-clause-inside c bytes part messages x p some = (part_whole bytes part messages x p, part_inside bytes part messages x p some)

pub returns-clause-dead_ends : goal.returns-clause-dead_ends
returns-clause-dead_ends c bytes part more byte messages x p d = (dead_end bytes part byte messages x p d, dead_place bytes part more byte messages x p d)
