use Rattle.std.proofs.Common.{◌≤◌, true, length, sym, ap, ◌∙◌, ap₂, arith}
use Rattle.std.proofs.lemmas.Result.{err_from_is_err_and}
use Rattle.semantics.specs.Normals.{normal}
use Rattle.semantics.specs.Cells.{table, entries, decoded}
use Rattle.semantics.proofs.Theorems.{tabled}
use Rattle.tables.specs.NormalTables.{normals_from}
use Rattle.reader.proofs.Growth.{forms_positive}
use Rattle.normalizing.specs.NormalWritten.{normal_written}
use Rattle.normalizing.proofs.Standing.{normals_written}
use Rattle.rules.specs.Judging.{refusal_of}
use Rattle.rules.specs.Loading.{unread}
use Rattle.rules.proofs.Facts.{normal_stands}
use Rattle.rules.proofs.Loads.{read_holds, judged_answer, source_is, source_counted, source_ordered, earlier, normal_table, normal_answer, no_limit, loaded_answer, normal_earlier, normal_some}
use Rattle.rules.proofs.rule.Rule.load.Goals as goal

pub returns-in_err-source : goal.returns-in_err-source
returns-in_err-source c =
    let p = err_from_is_err_and c.from_residual.result c.from_residual.ensures.1 in
    rw (p.1, p.2) (unread c.in_err-source.ensures)

pub returns-in_err-judge : goal.returns-in_err-judge
returns-in_err-judge c =
    let p = err_from_is_err_and c.from_residual-in_err-judge.result c.from_residual-in_err-judge.ensures.1 in
    rw (p.1, p.2) (judged_answer c.in_ok-source.ensures _ c.in_err-judge.ensures)

pub overflow_sub-source : goal.overflow_sub-source
overflow_sub-source c = let a = c.in_ok-source.ensures in omega (arith, a.count, forms_positive a.f)

pub normalize-requires : goal.normalize-requires
normalize-requires c =
    let a = c.in_ok-source.ensures in
    let w = earlier a (c.in_ok-judge.ensures a.f (read_holds a)) _ c.as_slice.ensures.is in
    record { earlier = w.0; there = w.1 }

pub returns-in_err-normalize : goal.returns-in_err-normalize
returns-in_err-normalize c =
    let a = c.in_ok-source.ensures in
    let ok = c.in_ok-judge.ensures a.f (read_holds a) in
    let p = err_from_is_err_and c.from_residual-in_err-normalize.result c.from_residual-in_err-normalize.ensures.1 in
    rw (p.1, p.2) (normal_answer a ok _ _ _ c.as_slice.ensures.is c.new-normals.ensures c.in_err-normalize.ensures)

pub translate-cells-requires : goal.translate-cells-requires
translate-cells-requires c =
    let a = c.in_ok-source.ensures in
    let ok = c.in_ok-judge.ensures a.f (read_holds a) in
    let e = c.as_slice-2.ensures.is ∙ normal_table a ok _ _ _ _ c.as_slice.ensures.is c.new-normals.ensures c.in_ok-normalize.ensures in
    let all = c.as_slice-2.ensures.within in
    record { earlier = normal_earlier a ok _ e all; some = normal_some a ok _ e all; few = all }

pub invariant_of-result : goal.invariant_of-result
invariant_of-result c =
    let a = c.in_ok-source.ensures in
    let ok = c.in_ok-judge.ensures a.f (read_holds a) in
    let M = c.normalize.new.normals in
    let e = normal_table a ok _ _ M _ c.as_slice.ensures.is c.new-normals.ensures c.in_ok-normalize.ensures in
    let all : length M ≤ 64 = omega (arith, c.as_slice-2.ensures.within, ap length c.as_slice-2.ensures.is) in
    let s = source_is a ok in
    let w = c.translate-cells.ensures (normal true a.f) (c.as_slice-2.ensures.is ∙ e) in
    record {
      counted = source_counted a ok;
      lawful = ap refusal_of s ∙ no_limit a ok M e all;
      normalized = e ∙ ap (λ f. normal_written 0 (normal true f)) (sym s);
      few = all;
      celled = w.cells ∙ ap (λ f. table (normal true f)) (sym s);
      located = w.locations ∙ ap (λ f. entries (normal true f)) (sym s);
    }

pub returns : goal.returns
returns c =
    let a = c.in_ok-source.ensures in
    let ok = c.in_ok-judge.ensures a.f (read_holds a) in
    let M = c.normalize.new.normals in
    let e = normal_table a ok _ _ M _ c.as_slice.ensures.is c.new-normals.ensures c.in_ok-normalize.ensures in
    let all : length M ≤ 64 = omega (arith, c.as_slice-2.ensures.within, ap length c.as_slice-2.ensures.is) in
    let N = normal true a.f in
    let w = c.translate-cells.ensures N (c.as_slice-2.ensures.is ∙ e) in
    record {
      f = a.f;
      reads = a.reads;
      answer = loaded_answer a ok M e all;
      source = source_is a ok;
      ordered = source_ordered a ok;
      normal_form = normal_stands M N e;
      normal_ordered = ap normals_from e ∙ normals_written N;
      cells = w.cells;
      locations = w.locations;
      decodes = ap₂ decoded w.cells w.locations ∙ (tabled N).decodes;
    }
