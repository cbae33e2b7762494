use Rattle.std.proofs.Common.{◌≡◌, ℕ, List, length, ap, ◌∙◌, subst}
use Rattle.refusals.specs.Refusals.{number_of}
use Rattle.logs.specs.declared.event.Event.{Event}
use Rattle.logs.specs.Rebasing.{rebased}
use Rattle.semantics.specs.Forms.{Form}
use Rattle.files.specs.Opened.{file_events}
use Rattle.reporting.specs.Listing.{listing, refused_line}
use Rattle.reporting.specs.Reports.{memory_for, no_rule, no_file, graded}
use Rattle.reporting.specs.Delivery.{Delivery}
use Rattle.reporting.proofs.Lent.{delivered_page}
use Rattle.reporting.proofs.Alone.{length-rebased, number_positive}
use Rattle.reporting.proofs.reports.report.Goals as goal

pub returns-in-Ok-open : goal.returns-in-Ok-open
returns-in-Ok-open c =
    let R = c.in-Ok.rule in
    let loaded = c.in-Ok.ensures in
    let f = loaded.f in
    let opened = c.in-Ok-open.ensures in
    let es = opened.file.0 in
    let laws = opened.file.1 in
    let encoded = opened.file.2 in
    let told : file_events c.over.result.below ≡ es = ap file_events c.over.ensures ∙ opened.meaning es laws encoded in
    let old = c.args.grades.now in
    let new = c.deliver_graded.new.grades in
    let before = c.args.out.now in
    let after = c.deliver_graded.new.out in
    let r = c.deliver_graded.result in
    record {
      bytes = listing f es;
      need = memory_for f (length es);
      reports = graded loaded.answer loaded.reads laws encoded;
      delivery =
          subst (λ (n : ℕ). Delivery (listing f es) (memory_for f n) old new before after r) (length-rebased es)
          (subst (λ (xs : List Event). Delivery (listing f xs) (memory_for f (length (rebased xs))) old new before after r) told
          (subst (λ (h : Form). Delivery (listing h (file_events c.over.result.below)) (memory_for h (length (rebased (file_events c.over.result.below)))) old new before after r) loaded.source
          c.deliver_graded.ensures));
    }

pub returns-in-Err-open : goal.returns-in-Err-open
returns-in-Err-open c =
    let loaded = c.in-Ok.ensures in
    let broken = c.in-Err-open.ensures in
    let nine : c.number.result ≡ 9 = c.number.ensures ∙ ap number_of broken.0 in
    record {
      bytes = refused_line 9;
      need = 0;
      reports = no_file loaded.answer broken.1;
      delivery =
          delivered_page (c.refusal_line.result) (refused_line 9) c.args.grades.now c.args.out.now c.deliver.new.out
          c.deliver.result (c.refusal_line.ensures ∙ ap refused_line nine) c.deliver.ensures;
    }

pub returns-in-Err : goal.returns-in-Err
returns-in-Err c =
    let number = number_of c.in-Err.refusal in
    record {
      bytes = refused_line number;
      need = 0;
      reports = no_rule c.in-Err.ensures (number_positive c.in-Err.refusal);
      delivery =
          delivered_page (c.refusal_line-in-Err.result) (refused_line number) c.args.grades.now c.args.out.now c.deliver-in-Err.new.out
          c.deliver-in-Err.result (c.refusal_line-in-Err.ensures ∙ ap refused_line c.number-in-Err.ensures) c.deliver-in-Err.ensures;
    }
