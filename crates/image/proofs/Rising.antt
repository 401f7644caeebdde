-- Keys compared one after the other, by a closure that is called at neighbours. Assumes nothing.
use Rattle.std.proofs.Common.{◌≡◌, ℕ, Bool, true, false, ◌&&◌, List, [], ◌∷◌, None, Some, Option, MatchOption, Bor, inl, inr, sym, ap, ◌∙◌, subst}
use denote.Param.Members.{Mut}
use Rattle.std.specs.Fn.{CalledAtTwo}
use Rattle.std.specs.Iterator.{YieldsFirstRef, YieldsThen}
use Rattle.std.specs.Iterator.Order.{ActsAsAtTwo, ChecksNeighbours, OrderTurn}
use Rattle.std.specs.List.{FoldsTo}
use Rattle.std.specs.Ordering.{is_lt}
use Rattle.kinds.specs.Kind.{Kind}
use Rattle.image.specs.Messages.{key_of}
use Rattle.image.specs.Reading.{keys_rise, keys_rise_from}

module _ (kind : Kind) {S F : Type 0} (rest : S → List (List ℕ)) (g : Mut F (Bor (Bor (List ℕ)) × (Bor (Bor (List ℕ)) × Unit {0})) Bool) (f : F) where
  -- the key of the one message is below that of the other
  abbrev pub keys_in_order : Bor (List ℕ) → Bor (List ℕ) → Bool
  keys_in_order m l = is_lt (kind.key_order (key_of kind m.now) (key_of kind l.now))

  module _ (acts : ActsAsAtTwo g f keys_in_order) (r : Bool) where
    -- after the message m, as far as the calls went
    rise_from : (m : Bor (List ℕ)) (ms : List (Bor (List ℕ))) (s : S) (o : Option (Bor (List ℕ))) (u : S) (q : F × Bor (List ℕ))
        → YieldsThen (YieldsFirstRef rest) s ms o u
        → FoldsTo {P = F × Bor (List ℕ)} (OrderTurn g) (f, m) ms q
        → MatchOption o (r ≡ true) (λ l. (r ≡ false) × ((h : F) × CalledAtTwo g q.0 q.1 l false h))
        → r ≡ keys_rise_from kind m.now (rest s)
    rise_from m [] s None u q run turns answer = answer ∙ sym (ap (keys_rise_from kind m.now) (ap rest run.1 ∙ run.2.0))
    rise_from m [] s (Some l) u q run turns answer =
        let called = subst (λ p. CalledAtTwo g p.0 p.1 l false answer.1.0) (sym turns) answer.1.1 in
        answer.0
        ∙ ap (λ t. t && keys_rise_from kind l.now (rest u)) (acts m l false answer.1.0 called).1
        ∙ sym (ap (keys_rise_from kind m.now) (ap rest run.1 ∙ run.2))
    rise_from m (l ∷ ls) s o u q run turns answer =
        let kept = acts m l true turns.0.0 turns.1.0 in
        let same : turns.0 ≡ (f, l) = λ i. (kept.0 i, turns.1.1 i) in
        rise_from l ls run.1.0 o u q (run.0, run.1.2, run.2) (subst (λ p. FoldsTo (OrderTurn g) p ls q) same turns.2) answer
        ∙ ap (λ t. t && keys_rise_from kind l.now (rest run.1.0)) kept.1
        ∙ sym (ap (keys_rise_from kind m.now) run.1.1)

    pub rising : (s : S) → ChecksNeighbours g (YieldsFirstRef rest) s f r → r ≡ keys_rise kind (rest s)
    rising s (inl none) = none.1 ∙ sym (ap (keys_rise kind) (ap rest none.0.1.1 ∙ none.0.1.2.0))
    rising s (inr (m, ms, o, u, q, run, turns, answer)) = rise_from m ms run.1.0 o u q (run.0, run.1.2, run.2) turns answer ∙ sym (ap (keys_rise kind) run.1.1)
