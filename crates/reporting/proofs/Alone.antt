-- A text and a file have one report, which is never long.
use Rattle.std.proofs.Common.{◌≡◌, ℕ, ◌<◌, ◌≤◌, true, List, length, sym, refl, ap, ◌∙◌, ap₂, arith}
use Rattle.std.proofs.lemmas.List.{length-map}
use Rattle.std.proofs.lemmas.Bool.Decides.{nat_tests}
use Rattle.refusals.specs.declared.refusal.Refusal.{Refusal}
use Rattle.refusals.specs.declared.refusal.Refusal.TheVariants.{RuleLength, NotAForm, TooManyForms, TooDeep, NumberTooLarge, EmptyInterval, NormalFormTooLarge, TimeOverLimit, BrokenFile, LogFull, TimeFalls, MemoryTooShort, EventAbsent, OutputTooShort}
use Rattle.refusals.specs.Refusals.{number_of}
use Rattle.logs.specs.declared.event.Event.{Event}
use Rattle.logs.specs.Logs.{event_at, Lawful}
use Rattle.logs.specs.Rebasing.{rebased, earlier, lawful_rebased}
use Rattle.semantics.specs.Forms.{Form}
use Rattle.semantics.specs.Normals.{normal, normal_forms}
use Rattle.grammar.proofs.Unique.{unambiguous}
use Rattle.grammar.specs.Grammar.{Reads}
use Rattle.reader.specs.Reading.{of_length, not_a_form}
use Rattle.rules.specs.Judging.{refusal_of}
use Rattle.rules.specs.Loading.{Answer, unread, judged}
use Rattle.rules.proofs.Judged.{one_answer}
use Rattle.files.specs.Format.{encode}
use Rattle.files.proofs.Parting.{reads_back}
use Rattle.reporting.specs.Listing.{listing, refused_line}
use Rattle.reporting.specs.Reports.{memory_for, no_rule, no_file, graded, OneReport, Enough}
use Rattle.reporting.proofs.Lengths.{refused_short, listed_short}
use Rattle.reporting.proofs.Lent.{memory_few}

pub length-rebased : (es : List Event) → length (rebased es) ≡ length es
length-rebased es = length-map es (earlier (event_at es 1).time)

pub number_positive : (e : Refusal) → 0 < number_of e
number_positive RuleLength = omega arith
number_positive NotAForm = omega arith
number_positive TooManyForms = omega arith
number_positive TooDeep = omega arith
number_positive NumberTooLarge = omega arith
number_positive EmptyInterval = omega arith
number_positive NormalFormTooLarge = omega arith
number_positive TimeOverLimit = omega arith
number_positive BrokenFile = omega arith
number_positive LogFull = omega arith
number_positive TimeFalls = omega arith
number_positive MemoryTooShort = omega arith
number_positive EventAbsent = omega arith
number_positive OutputTooShort = omega arith

-- two lawful lists with one file are one list
same_events : (file : List ℕ) (es fs : List Event) → Lawful es → Lawful fs → encode es ≡ file → encode fs ≡ file → es ≡ fs
same_events file es fs l m p q = sym (reads_back es file l p) ∙ reads_back fs file m q

pub one_report_lem : OneReport
one_report_lem text file b c m n (no_rule a p) (no_rule d q) = (ap refused_line (one_answer text _ _ a d), refl)
one_report_lem text file b c m n (no_rule a p) (no_file d q) = absurd (omega (arith, one_answer text _ _ a d))
one_report_lem text file b c m n (no_rule a p) (graded d r l w) = absurd (omega (arith, one_answer text _ _ a d))
one_report_lem text file b c m n (no_file a p) (no_rule d q) = absurd (omega (arith, one_answer text _ _ a d))
one_report_lem text file b c m n (no_file a p) (no_file d q) = (refl, refl)
one_report_lem text file b c m n (no_file a p) (graded d r l w) = absurd (p (_, l, w))
one_report_lem text file b c m n (graded d r l w) (no_rule a p) = absurd (omega (arith, one_answer text _ _ a d))
one_report_lem text file b c m n (graded d r l w) (no_file a p) = absurd (p (_, l, w))
one_report_lem text file b c m n (graded {f = f} {es = es} d r l w) (graded {f = h} {es = fs} e s k v) =
    let form : f ≡ h = unambiguous text f h r s in
    let events : es ≡ fs = same_events file es fs l k w v in
    (ap₂ listing form events, ap₂ (λ (x : Form) (ys : List Event). memory_for x (length ys)) form events)

refusal_few : (f : Form) → refusal_of f ≤ 7
refusal_few f = grind (arith, nat_tests)

answer_few : (t : List ℕ) (n : ℕ) → Answer t n → n ≤ 7
answer_few t n (unread (of_length bad)) = omega arith
answer_few t n (unread (not_a_form fits bad)) = omega arith
answer_few t n (judged {f = f} fits reads is) = omega (arith, refusal_few f)

normal_few : (f : Form) → refusal_of f ≡ 0 → normal_forms (normal true f) ≤ 64
normal_few f none = grind (arith, nat_tests)

-- the normal form of a text that is a rule
accepted_few : (t : List ℕ) (n : ℕ) (f : Form) → Answer t n → n ≡ 0 → Reads t f → normal_forms (normal true f) ≤ 64
accepted_few t n f (unread (of_length bad)) zero reads = omega arith
accepted_few t n f (unread (not_a_form fits bad)) zero reads = omega arith
accepted_few t n f (judged {f = h} fits other is) zero reads = normal_few f (ap refusal_of (unambiguous t f h reads other) ∙ sym is ∙ zero)

pub enough : Enough 34434 11275
enough text file b need (no_rule {n = n} a p) = (omega arith, omega (arith, refused_short n (omega (arith, answer_few text n a))))
enough text file b need (no_file a p) = (omega arith, omega (arith, refused_short 9 (omega arith)))
enough text file b need (graded {f = f} {es = es} a r l w) =
    (memory_few f (length es) (accepted_few text 0 f a refl r) l.few, listed_short (rebased es) (lawful_rebased es l) _)
