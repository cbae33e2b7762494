-- What loading finds, step by step.
use Rattle.std.proofs.Common.{◌≡◌, ℕ, ◌-◌, ◌<◌, ◌≤◌, true, List, [], ◌++◌, length, sym, ap, ◌∙◌, subst, arith}
use Rattle.refusals.specs.Refusals.{number_of}
use Rattle.refusals.specs.declared.refusal.Refusal.{Refusal}
use Rattle.semantics.specs.Forms.{Form, forms}
use Rattle.semantics.specs.Normals.{normal, normal_forms}
use Rattle.tables.specs.Sources.{form_at, forms_from}
use Rattle.tables.specs.declared.node.Node.{Node}
use Rattle.tables.specs.declared.normal_node.NormalNode.{NormalNode}
use Rattle.reader.specs.declared.source.Source.{Source}
use Rattle.reader.specs.Tables.{written, held}
use Rattle.reader.specs.Reading.{Read}
use Rattle.reader.proofs.Growth.{length-written}
use Rattle.limits.specs.Order.{ended}
use Rattle.limits.specs.Parts.{Earlier}
use Rattle.limits.proofs.Written.{root_as_read, forms_written, capped_same}
use Rattle.normalizing.specs.NormalWritten.{normal_written, Normalized, TooLarge}
use Rattle.normalizing.proofs.Making.{length-normal, normal_positive}
use Rattle.translation.specs.Building.{EarlierNormals}
use Rattle.translation.proofs.Written as translated
use Rattle.rules.specs.Judging.{form_in, judged_of, refusal_of, Holds}
use Rattle.rules.specs.Loading.{Answer, judged}
use Rattle.rules.proofs.Judged.{none_failed, normal_too_large, no_refusal, judged_refusal, form_in_written, earlier_told}

module _ {t : List ℕ} {S : Source} (a : Read t S) where
  pub read_holds : Holds S a.f
  read_holds = record { count = a.count; table = a.table }

  -- a limit that is broken is the answer
  pub judged_answer : (e : Refusal) → ((f : Form) → Holds S f → number_of e ≡ judged_of f) → Answer t (number_of e)
  judged_answer e h = judged a.fitting a.reads (judged_refusal a.f e (h a.f read_holds))

  module _ (ok : judged_of a.f ≡ 0) where
    pub full : held S ≡ written 0 a.f
    full = a.table (none_failed a.f ok).few

    pub source_is : form_in (held S) ≡ a.f
    source_is = form_in_written (held S) a.f full (none_failed a.f ok).small_numbers

    pub source_counted : length (held S) ≡ forms (form_in (held S))
    source_counted = ap length full ∙ length-written a.f 0 ∙ ap forms (sym source_is)

    pub source_ordered : forms_from (held S) ≡ ended a.f
    source_ordered = ap forms_from full ∙ forms_written a.f ∙ ap ended (capped_same a.f (none_failed a.f ok).small_numbers)

    pub earlier : (ns : List Node) → ns ≡ held S → Earlier ns × (S.count - 1 < length ns)
    earlier ns e = earlier_told ns S.count a.f (e ∙ full) a.count

    root_is : (ns : List Node) → ns ≡ held S → form_at (forms_from ns) (S.count - 1) ≡ a.f
    root_is ns e = (λ i. form_at (forms_from ((e ∙ full) i)) (a.count i - 1)) ∙ root_as_read a.f (none_failed a.f ok).small_numbers

    pub normal_table : (ns : List Node) (before after : List NormalNode) (r : ℕ) → ns ≡ held S → before ≡ [] →
        Normalized before after (normal true (form_at (forms_from ns) (S.count - 1))) r → after ≡ normal_written 0 (normal true a.f)
    normal_table ns before after r e z n = n.appended ∙ (λ i. z i ++ normal_written (length (z i)) (normal true (root_is ns e i)))

    -- the last limit
    pub normal_answer : (ns : List Node) (before : List NormalNode) (r : Refusal) → ns ≡ held S → before ≡ [] →
        TooLarge before (normal true (form_at (forms_from ns) (S.count - 1))) r → Answer t (number_of r)
    normal_answer ns before r e z n =
        let over : 64 < normal_forms (normal true a.f) = omega (arith, n.over, ap length z, ap (λ f. normal_forms (normal true f)) (root_is ns e)) in
        judged a.fitting a.reads (ap number_of n.is ∙ sym (normal_too_large a.f ok over))

    module _ (M : List NormalNode) (e : M ≡ normal_written 0 (normal true a.f)) (few : length M ≤ 64) where
      pub no_limit : refusal_of a.f ≡ 0
      no_limit = no_refusal a.f ok (omega (arith, ap length e, length-normal (normal true a.f) 0))

      pub loaded_answer : Answer t 0
      loaded_answer = judged a.fitting a.reads (sym no_limit)

      pub normal_earlier : EarlierNormals M
      normal_earlier = subst EarlierNormals (sym e) (translated.written_earlier (normal true a.f))

      pub normal_some : 1 ≤ length M
      normal_some = omega (arith, ap length e, length-normal (normal true a.f) 0, normal_positive (normal true a.f))
