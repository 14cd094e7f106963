-- A cell's words and what stands beside them tell its state, and its state tells them.
use Rattle.std.proofs.Common.{◌≡◌, ◌∙◌, sym, ap, subst, refl, arith, ℕ, Bool, true, false, not, eqb, Option, None, Some, List, [], ◌∷◌, length, is_some}
use Rattle.std.proofs.lemmas.Bool.{false≢true, ne_eqb, eqb-true}
use Rattle.grid_law.specs.Codec.{Codec, CodecLaws, IsTold}
use Rattle.cell_states.specs.Codes.{state_of, IsCodeOf, IsCode}

none_some : {X : Type 0} (x : X) → None ≡ Some x → ⊥
none_some x q = absurd (false≢true (ap is_some q))

abbrev value_or : {X : Type 0} → X → Option X → X
value_or d None = d
value_or d (Some x) = x

some_is : {X : Type 0} (x y : X) → Some x ≡ Some y → x ≡ y
some_is x y q = ap (value_or x) q

pub is_not : (b : Bool) → not b ≡ true → b ≡ false
is_not true e = absurd (false≢true e)
is_not false e = refl

pub empty_words : (ws : List ℕ) → eqb (length ws) 0 ≡ true → ws ≡ []
empty_words [] e = refl
empty_words (w ∷ ws) e = absurd (let n : length (w ∷ ws) ≡ 0 = eqb-true _ _ e in omega (arith, n))

pub has_words : (ws : List ℕ) → eqb (length ws) 0 ≡ false → ws ≡ [] → ⊥
has_words ws e n = false≢true (sym e ∙ ap (λ xs. eqb (length xs) 0) n)

module _ {State Memory : Type 0} (C : Codec State Memory) where
  -- equal words and equal memories are equal states
  pub same_code : (ws us : List ℕ) (m n : Option Memory) → ws ≡ us → m ≡ n → state_of C ws m ≡ state_of C us n
  same_code ws us m n e f = ap (λ z. state_of C z m) e ∙ ap (state_of C us) f

  -- and codes as well
  pub code_along : (ws us : List ℕ) (m n : Option Memory) → ws ≡ us → m ≡ n → IsCode C us n → IsCode C ws m
  code_along ws us m n e f code = subst (λ z. IsCode C z m) (sym e) (subst (IsCode C us) (sym f) code)

  -- where there are no words, there is no state
  pub no_state : (ws : List ℕ) (m : Option Memory) → ws ≡ [] → state_of C ws m ≡ None
  no_state ws m e = ap (λ z. state_of C z m) e

  pub no_code : (ws : List ℕ) (m : Option Memory) → ws ≡ [] → IsCode C ws m
  no_code ws m e = subst (λ z. IsCode C z m) (sym e) tt

  -- and where there is no state, there are no words
  pub no_words : (ws : List ℕ) (m : Option Memory) → state_of C ws m ≡ None → ws ≡ []
  no_words [] m e = refl
  no_words (w ∷ ws) m e = absurd (none_some (C.state (w ∷ ws) m) (sym e))

  -- a cell has a state where it has words
  pub has_state : (ws : List ℕ) (m : Option Memory) → not (eqb (length ws) 0) ≡ is_some (state_of C ws m)
  has_state [] m = refl
  has_state (w ∷ ws) m = ap not (ne_eqb (length (w ∷ ws)) 0 (λ e. absurd (omega (arith, e))))

  pub some_state : (ws : List ℕ) (m : Option Memory) → eqb (length ws) 0 ≡ false → state_of C ws m ≡ Some (C.state ws m)
  some_state [] m e = absurd (false≢true (sym e))
  some_state (w ∷ ws) m e = refl

module _ {State Memory : Type 0} (C : Codec State Memory) (laws : CodecLaws C) where
  read_back : (words : List ℕ) (memory : Option Memory) (x : State) → IsTold C x → IsCodeOf C words memory x → C.state words memory ≡ x
  read_back words memory x told code = ap (λ ws. C.state ws memory) (sym code.words_are) ∙ ap (C.state (C.words x)) (sym code.memory_is) ∙ told

  -- a cell that gets a told state's words and memory holds it, and they are a code
  pub put_is : (words : List ℕ) (memory : Option Memory) (x : State) → IsTold C x → IsCodeOf C words memory x → (state_of C words memory ≡ Some x) × IsCode C words memory
  put_is [] memory x told code = absurd (laws.some x code.words_are)
  put_is (w ∷ words) memory x told code =
      let e : C.state (w ∷ words) memory ≡ x = read_back (w ∷ words) memory x told code in
      (ap Some e, subst (λ y. IsCodeOf C (w ∷ words) memory y) (sym e) code)

  -- a coded cell holds a state only where its words and its memory are the state's
  pub holds_only : (words : List ℕ) (memory : Option Memory) (x : State) → IsCode C words memory → state_of C words memory ≡ Some x → IsCodeOf C words memory x
  holds_only [] memory x code e = absurd (none_some x e)
  holds_only (w ∷ words) memory x code e = subst (λ y. IsCodeOf C (w ∷ words) memory y) (some_is (C.state (w ∷ words) memory) x e) code

  -- coded cells of equal states have equal words, and equal memories where there are words
  pub same_words : (ws us : List ℕ) (m n : Option Memory) → IsCode C ws m → IsCode C us n → state_of C ws m ≡ state_of C us n → ws ≡ us
  same_words [] us m n a b e = sym (no_words C us n (sym e))
  same_words (w ∷ ws) us m n a b e =
      let q = holds_only us n (C.state (w ∷ ws) m) b (sym e) in
      sym a.words_are ∙ q.words_are

  pub same_memory : (ws us : List ℕ) (m n : Option Memory) → (ws ≡ [] → ⊥) → IsCode C ws m → IsCode C us n → state_of C ws m ≡ state_of C us n → m ≡ n
  same_memory [] us m n some a b e = absurd (some refl)
  same_memory (w ∷ ws) us m n some a b e =
      let q = holds_only us n (C.state (w ∷ ws) m) b (sym e) in
      sym a.memory_is ∙ q.memory_is
