use Rattle.std.proofs.Common.{arith}
use Rattle.semantics.specs.Forms.{top, bottom, fact}
use Rattle.grammar.specs.Grammar.{is_one, is_zero, is_fact}
use Rattle.reader.proofs.Growth.{written_top, written_bottom, written_fact}
use Rattle.reader.proofs.parsing.plain.Goals as goal

pub returns-in-1 : goal.returns-in-1
returns-in-1 c = record { f = top; reads = is_one (omega arith); is = written_top }

pub returns-in-0 : goal.returns-in-0
returns-in-0 c = record { f = bottom; reads = is_zero (omega arith); is = written_bottom }

pub returns-in-a-to-p : goal.returns-in-a-to-p
returns-in-a-to-p c = record { f = fact _; reads = is_fact (omega arith) (omega arith); is = written_fact _ }
