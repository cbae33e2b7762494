-- What the tests of a table tell of the form that is written in it.
use Rattle.std.proofs.Common.{◌≡◌, ℕ, ◌-◌, ◌<◌, ◌≤◌, Bool, true, false, cond, ltb, List, length, sym, refl, ap, ◌∙◌, subst, arith}
use Rattle.std.proofs.lemmas.Bool.{lt-ltb, le-ltb, ltb-false}
use Rattle.refusals.specs.Refusals.{number_of}
use Rattle.refusals.specs.declared.refusal.Refusal.{Refusal}
use Rattle.refusals.specs.declared.refusal.Refusal.TheVariants.{RuleLength, NotAForm, TooManyForms, TooDeep, NumberTooLarge, EmptyInterval, NormalFormTooLarge, TimeOverLimit, BrokenFile, LogFull, TimeFalls, MemoryTooShort, EventAbsent, OutputTooShort}
use Rattle.semantics.specs.Forms.{Form, forms}
use Rattle.semantics.specs.Normals.{normal, normal_forms}
use Rattle.tables.specs.Sources.{form_at, forms_from}
use Rattle.tables.specs.declared.node.Node.{Node}
use Rattle.grammar.specs.Grammar.{Reads}
use Rattle.grammar.proofs.Unique.{unambiguous}
use Rattle.reader.specs.Reading.{Fitting, Unread, of_length, not_a_form}
use Rattle.reader.specs.Tables.{written}
use Rattle.reader.proofs.Growth.{length-written, forms_positive}
use Rattle.limits.specs.Limits.{depth, every, small, proper}
use Rattle.limits.specs.Parts.{Earlier, every_node}
use Rattle.limits.proofs.Written.{root_as_read, depth_as_read, small_written, proper_written, written_earlier}
use Rattle.rules.specs.Judging.{form_in, judged_or, judged_of, refusal_of}
use Rattle.rules.specs.Loading.{unread, judged, OneAnswer}

pub too_deep : (n : ℕ) (f : Form) → forms f ≤ 64 → 32 < depth f → judged_or n f ≡ 4
too_deep n f h k = rw (le-ltb 64 (forms f) h, lt-ltb 32 (depth f) k)

pub too_large : (n : ℕ) (f : Form) → forms f ≤ 64 → depth f ≤ 32 → every small f ≡ false → judged_or n f ≡ 5
too_large n f h k e = rw (le-ltb 64 (forms f) h, le-ltb 32 (depth f) k, e)

pub not_proper : (n : ℕ) (f : Form) → forms f ≤ 64 → depth f ≤ 32 → every small f ≡ true → every proper f ≡ false → judged_or n f ≡ 6
not_proper n f h k e d = rw (le-ltb 64 (forms f) h, le-ltb 32 (depth f) k, e, d)

pub within : (n : ℕ) (f : Form) → forms f ≤ 64 → depth f ≤ 32 → every small f ≡ true → every proper f ≡ true → judged_or n f ≡ n
within n f h k e d = rw (le-ltb 64 (forms f) h, le-ltb 32 (depth f) k, e, d)

-- and what none of them says
pub record Within (f : Form) : Type 0 where
  pub few : forms f ≤ 64
  pub small_numbers : every small f ≡ true
  pub all : (n : ℕ) → judged_or n f ≡ n

passed : (f : Form) (a b c d : Bool) → ltb 64 (forms f) ≡ a → every small f ≡ c → ◌≡◌ {A = ℕ} (cond a 3 (cond b 4 (cond c (cond d 0 6) 5))) 0 →
    (forms f ≤ 64) × (every small f ≡ true) × ((n : ℕ) → ◌≡◌ {A = ℕ} (cond a 3 (cond b 4 (cond c (cond d n 6) 5))) n)
passed f true b c d p q h = absurd (omega arith)
passed f false true c d p q h = absurd (omega arith)
passed f false false false d p q h = absurd (omega arith)
passed f false false true false p q h = absurd (omega arith)
passed f false false true true p q h = (ltb-false 64 (forms f) p, q, λ n. refl)

pub none_failed : (f : Form) → judged_of f ≡ 0 → Within f
none_failed f h =
    let w = passed f (ltb 64 (forms f)) (ltb 32 (depth f)) (every small f) (every proper f) refl refl h in
    record { few = w.0; small_numbers = w.1; all = w.2 }

pub normal_too_large : (f : Form) → judged_of f ≡ 0 → 64 < normal_forms (normal true f) → refusal_of f ≡ 7
normal_too_large f h k = (none_failed f h).all _ ∙ rw (lt-ltb 64 (normal_forms (normal true f)) k)

pub no_refusal : (f : Form) → judged_of f ≡ 0 → normal_forms (normal true f) ≤ 64 → refusal_of f ≡ 0
no_refusal f h k = (none_failed f h).all _ ∙ rw (le-ltb 64 (normal_forms (normal true f)) k)

judged_any : (a b c d : Bool) (m n : ℕ) → 1 ≤ m → ◌≡◌ {A = ℕ} m (cond a 3 (cond b 4 (cond c (cond d 0 6) 5))) → ◌≡◌ {A = ℕ} m (cond a 3 (cond b 4 (cond c (cond d n 6) 5)))
judged_any true b c d m n p h = h
judged_any false true c d m n p h = h
judged_any false false false d m n p h = h
judged_any false false true false m n p h = h
judged_any false false true true m n p h = absurd (omega arith)

number_positive : (e : Refusal) → 1 ≤ number_of e
number_positive RuleLength = omega arith
number_positive NotAForm = omega arith
number_positive TooManyForms = omega arith
number_positive TooDeep = omega arith
number_positive NumberTooLarge = omega arith
number_positive EmptyInterval = omega arith
number_positive NormalFormTooLarge = omega arith
number_positive TimeOverLimit = omega arith
number_positive BrokenFile = omega arith
number_positive LogFull = omega arith
number_positive TimeFalls = omega arith
number_positive MemoryTooShort = omega arith
number_positive EventAbsent = omega arith
number_positive OutputTooShort = omega arith

-- a limit that is broken is the answer, whatever the last limit says
pub judged_refusal : (f : Form) (e : Refusal) → number_of e ≡ judged_of f → number_of e ≡ refusal_of f
judged_refusal f e h = judged_any (ltb 64 (forms f)) (ltb 32 (depth f)) (every small f) (every proper f) (number_of e) _ (number_positive e) h

-- what the tests of a table that is written full are about
pub depth_told : (ns : List Node) (k : ℕ) (f : Form) → ns ≡ written 0 f → k ≡ forms f → depth (form_at (forms_from ns) (k - 1)) ≡ depth f
depth_told ns k f e d = (λ t. depth (form_at (forms_from (e t)) (d t - 1))) ∙ depth_as_read f

pub small_told : (ns : List Node) (f : Form) → ns ≡ written 0 f → every_node small ns ≡ every small f
small_told ns f e = ap (every_node small) e ∙ small_written f

pub proper_told : (ns : List Node) (f : Form) → ns ≡ written 0 f → every small f ≡ true → every_node proper ns ≡ every proper f
proper_told ns f e h = ap (every_node proper) e ∙ proper_written f h

pub earlier_told : (ns : List Node) (k : ℕ) (f : Form) → ns ≡ written 0 f → k ≡ forms f → Earlier ns × (k - 1 < length ns)
earlier_told ns k f e d = (subst Earlier (sym e) (written_earlier f), omega (arith, ap length e, length-written f 0, forms_positive f))

-- the table of a form within the limits stands for it
pub form_in_written : (ns : List Node) (f : Form) → ns ≡ written 0 f → every small f ≡ true → form_in ns ≡ f
form_in_written ns f e h =
    ap form_in e ∙ ap (λ k. form_at (forms_from (written 0 f)) (k - 1)) (length-written f 0) ∙ root_as_read f h

same_unread : (t : List ℕ) {m n : ℕ} → Unread t m → Unread t n → m ≡ n
same_unread t (of_length p) (of_length q) = refl
same_unread t (of_length p) (not_a_form q r) = absurd (p q)
same_unread t (not_a_form p r) (of_length q) = absurd (q p)
same_unread t (not_a_form p r) (not_a_form q s) = refl

no_both : (t : List ℕ) {m : ℕ} {f : Form} → Unread t m → Fitting t → Reads t f → ⊥
no_both t (of_length p) q r = p q
no_both t (not_a_form p s) q r = s _ r

pub one_answer : OneAnswer
one_answer t m n (unread a) (unread b) = same_unread t a b
one_answer t m n (unread a) (judged p r e) = absurd (no_both t a p r)
one_answer t m n (judged p r e) (unread b) = absurd (no_both t b p r)
one_answer t m n (judged {f = f} p r e) (judged {f = g} q s d) = e ∙ ap refusal_of (unambiguous t f g r s) ∙ sym d
