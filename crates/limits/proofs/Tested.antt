-- A test of each interval of a table, entry by entry.
use Rattle.std.proofs.Common.{◌≡◌, ℕ, zero, suc, ◌<◌, Bool, true, false, ◌&&◌, MatchBool, List, [], ◌∷◌, ◌++◌, length, sym, refl, ap, ◌∙◌, arith}
use Rattle.std.specs.List.{AllWithin, HoldsAt}
use Rattle.std.proofs.lemmas.Bool.{and_right, and_from}
use Rattle.semantics.specs.Forms as meaning
use Rattle.tables.specs.declared.node.Node.{Node}
use Rattle.limits.specs.Parts.{node_interval, passes, every_node}

module _ (p : meaning.Interval → Bool) where
  and_nil : (b : Bool) → (b && true) ≡ b
  and_nil true = refl
  and_nil false = refl

  and_assoc : (a b c : Bool) → ((a && b) && c) ≡ (a && (b && c))
  and_assoc true b c = refl
  and_assoc false b c = refl

  pub every_append : (ms ns : List Node) → every_node p (ms ++ ns) ≡ (every_node p ms && every_node p ns)
  unfolding every_node
  every_append [] ns = refl
  every_append (m ∷ ms) ns = ap (λ b. passes p (node_interval m) && b) (every_append ms ns) ∙ sym (and_assoc (passes p (node_interval m)) (every_node p ms) (every_node p ns))

  pub every_one : (n : Node) → every_node p (n ∷ []) ≡ passes p (node_interval n)
  unfolding every_node
  every_one n = and_nil (passes p (node_interval n))

  -- every entry passes, or one does not
  pub every_told :
      (r : Bool) (ns : List Node) →
      MatchBool r (AllWithin (λ n. passes p (node_interval n) ≡ true) ns 0 (length ns)) ((k : ℕ) × (k < length ns) × HoldsAt (λ n. passes p (node_interval n) ≡ false) ns k) →
      r ≡ every_node p ns
  unfolding every_node
  every_told true [] told = refl
  every_told false [] told = absurd (let h = told.1 in omega arith)
  every_told true (n ∷ ns) told = sym (and_from _ _ (told 0 n (omega arith) (omega arith)) (sym (every_told true ns (λ k d low high. told (suc k) d (omega arith) (omega arith)))))
  every_told false (n ∷ ns) (zero, h, fails) = sym (ap (λ b. b && every_node p ns) (fails n))
  every_told false (n ∷ ns) (suc k, h, fails) = sym (and_right _ _ (sym (every_told false ns (k, omega arith, λ d. fails d))))
