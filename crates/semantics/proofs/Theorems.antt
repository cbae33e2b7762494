-- The theorems over words, as facts on lists of events.
use Rattle.std.proofs.Common.{◌≡◌, ℕ, ◌-◌, ◌≤◌, true, false, leb, List, ◌++◌, length, get_or, sym, ap, ◌∙◌, arith, length-append}
use lib.ListN.{get_or-append}
use Rattle.std.proofs.lemmas.Bool.Decides.{nat_tests}
use Rattle.logs.specs.declared.event.Event.{Event}
use Rattle.logs.specs.Logs.{none, event_at}
use Rattle.scales.specs.Scales.{Ops, Laws}
use Rattle.scales.proofs.Orders.{at_most_antisym}
use Rattle.semantics.specs.Words.{word}
use Rattle.semantics.specs.Normals.{Normal, normal}
use Rattle.semantics.specs.Automata.{automaton}
use Rattle.semantics.specs.Values.{run_boundary}
use Rattle.semantics.specs.Continuations.{Timely, Continues, TimelyContinuation, LawfulContinuation}
use Rattle.semantics.specs.Theorems.{NormalSame, NormalOpposed, Agreement, AgreementWithin, Monotone, Cut, Between, Settled, Tabled}
use Rattle.semantics.proofs.Normals.{normal_is}
use Rattle.semantics.proofs.Steps.{Rising}
use Rattle.semantics.proofs.Places.{length-temporals}
use Rattle.semantics.proofs.Values.{form_value, waiting_value}
use Rattle.semantics.proofs.Relations.{Extends, values_monotone, values_cut, values_floor, values_ceiling}
use Rattle.semantics.proofs.Cells.{length-table, length-entries, table_few, entries_few, table_below, entries_rooted}
use Rattle.semantics.proofs.Decoding.{table_decoded}

event_there : (es : List Event) (i : ℕ) → 1 ≤ i → event_at es i ≡ get_or es (i - 1) none
event_there es i p = let e : leb 1 i ≡ true = grind (arith, nat_tests) in rw e

kept : (es more : List Event) (i : ℕ) → 1 ≤ i → i ≤ length es → event_at es i ≡ event_at (es ++ more) i
kept es more i p q = event_there es i p ∙ sym (event_there (es ++ more) i p ∙ get_or-append es more none (i - 1) (omega arith))

-- a lawful continuation is a timely one
pub lawful_continuation : (es whole : List Event) → LawfulContinuation es whole → TimelyContinuation es whole
lawful_continuation es whole c = record { continues = c.continues; timely = c.lawful.rising }

-- every cell table
pub tabled : (f : Normal) → Tabled f
tabled f =
    record {
      decodes = table_decoded f;
      cells_counted = length-table f;
      locations_counted = length-entries f;
      temporals_counted = length-temporals f;
      cells_bounded = table_few f;
      locations_bounded = entries_few f;
      earlier = table_below f _;
      rooted = entries_rooted f _;
    }

module _ {G : Type 0} (S : Ops G) where
  timely_rises : (es : List Event) → Timely es → Rising (word S es)
  timely_rises es h i j p q r = rw (event_there es i p, event_there es j (omega arith)) (h (i - 1) (j - 1) (omega arith) (omega arith))

  appended_extends : (es more : List Event) → Extends (word S es) (word S (es ++ more))
  appended_extends es more =
      record {
        shorter = simp length-append (omega arith);
        times = λ i p q. ap (λ (e : Event). e.time) (kept es more i p q);
        facts = λ x i p q. ap (λ (e : Event). S.grade (get_or e.readings x 0)) (kept es more i p q);
      }

  continues_extends : (es whole : List Event) → Continues es whole → Extends (word S es) (word S whole)
  continues_extends es whole c = rw c.appended (appended_extends es c.more)

  pub cut : Cut S
  cut es whole c A after l s i p q u = values_cut S (word S es) (word S whole) (continues_extends es whole c) A after l s i p q u

  module _ (L : Laws S) where
    pub normal_same : NormalSame S
    normal_same es f i = normal_is S L (word S es) true f i

    pub normal_opposed : NormalOpposed S
    normal_opposed es f i = normal_is S L (word S es) false f i

    pub agreement : Agreement S
    agreement es h f i p q = form_value S L (word S es) (timely_rises es h) f i p q

    pub agreement_within : AgreementWithin S
    agreement_within es h f l e i p q = waiting_value S L (word S es) (timely_rises es h) f l e i p q

    pub monotone : Monotone S
    monotone es = values_monotone S L (word S es)

    pub between : Between S TimelyContinuation
    between es whole c f i p q =
        let w = word S es in
        let v = word S whole in
        let A = automaton (normal true f) in
        let x = continues_extends es whole c.continues in
        let o = x.shorter in
        let e = form_value S L v (timely_rises whole c.timely) f i p (omega arith) in (
          rw e at (values_floor S L w v x A (run_boundary S A) 0 i i p (omega arith) q),
          rw e at (values_ceiling S L w v x A (run_boundary S A) 0 i i p (omega arith) q),
        )

    pub between_lawful : Between S LawfulContinuation
    between_lawful es whole c = between es whole (lawful_continuation es whole c)

    pub settled : Settled S TimelyContinuation
    settled es whole c f i p q e =
        let b = between es whole c f i p q in
        at_most_antisym S L _ _ (rw (← e) at b.1) b.0

    pub settled_lawful : Settled S LawfulContinuation
    settled_lawful es whole c = settled es whole (lawful_continuation es whole c)
