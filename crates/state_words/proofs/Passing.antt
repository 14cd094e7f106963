-- What follows one thing and then another follows both.
use Rattle.std.proofs.Common.{◌≡◌, ◌↔◌, ℕ, suc, ◌+◌, ◌*◌, ◌^◌, ◌<◌, ◌∙◌, sym, ap, arith, Bool, IsTrue, List, [], ◌∷◌, length, drop, get_or, Option, Some, unwrap_or}
use Rattle.std.proofs.Math.Seq.{drop-cons}
use Rattle.omega_net.specs.Ports.{message_at}
use Rattle.ref_proc.specs.declared.state.ProcState.{ProcState}
use Rattle.state_words.specs.Messages.{out_first, out_second, reply_first, reply_second, message_words}
use Rattle.state_words.specs.Words.{option_words, proc_body}

-- two words, one behind the other
pub past_two : (x y z : Option (List ℕ)) (a b m n : ℕ) → m ≡ a → n ≡ b
    → ((r : List ℕ) → (x ≡ Some (m ∷ r)) ↔ (y ≡ Some r)) → ((r : List ℕ) → (y ≡ Some (n ∷ r)) ↔ (z ≡ Some r))
    → (r : List ℕ) → (x ≡ Some (a ∷ b ∷ r)) ↔ (z ≡ Some r)
past_two x y z a b m n ea eb f g r =
    let same : m ∷ n ∷ r ≡ a ∷ b ∷ r = ap (λ k. k ∷ n ∷ r) ea ∙ ap (λ k. a ∷ k ∷ r) eb in
    (λ e. (g r).0 ((f (n ∷ r)).0 (e ∙ ap Some (sym same))), λ e. (f (n ∷ r)).1 ((g r).1 e) ∙ ap Some same)

-- a message more
pub past_more : {T : Type 0} (first second : T → ℕ) (ms : List T) (i : ℕ) (m : T) (x y z : Option (List ℕ)) → i < length ms → m ≡ get_or ms i m
    → ((r : List ℕ) → (x ≡ Some (message_words first second ms r)) ↔ (y ≡ Some (message_words first second (drop i ms) r)))
    → ((r : List ℕ) → (y ≡ Some (first m ∷ second m ∷ r)) ↔ (z ≡ Some r))
    → (r : List ℕ) → (x ≡ Some (message_words first second ms r)) ↔ (z ≡ Some (message_words first second (drop (i + 1) ms) r))
past_more first second ms i m x y z h is f g r =
    let left : drop i ms ≡ m ∷ drop (i + 1) ms = drop-cons ms i m h ∙ ap (λ k. k ∷ drop (suc i) ms) (sym is) ∙ ap (λ n. m ∷ drop n ms) (one_more i) in
    let rest = message_words first second (drop (i + 1) ms) r in
    (λ e. (g rest).0 ((f r).0 e ∙ ap (λ l. Some (message_words first second l r)) left), λ e. (f r).1 ((g rest).1 e ∙ ap (λ l. Some (message_words first second l r)) (sym left)))
  where
    one_more : (n : ℕ) → suc n ≡ n + 1
    one_more n = omega arith

-- a message that is there
pub past_there : {T : Type 0} (first second : T → ℕ) (o : Option T) (m : T) (x z : Option (List ℕ)) → o ≡ Some m
    → ((r : List ℕ) → (x ≡ Some (first m ∷ second m ∷ r)) ↔ (z ≡ Some r))
    → (r : List ℕ) → (x ≡ Some (option_words first second o r)) ↔ (z ≡ Some r)
past_there first second o m x z is f r =
    (λ e. (f r).0 (e ∙ ap (λ p. Some (option_words first second p r)) is), λ e. (f r).1 e ∙ ap (λ p. Some (option_words first second p r)) (sym is))

-- all that follows a processor's head
pub whole_proc : (s : ProcState) (body : List ℕ) (n : ℕ) (a b c z : Option (List ℕ)) (t : Bool) → n ≡ s.spent + 2 ^ 32 * s.issued
    → ((r : List ℕ) → (Some body ≡ Some (n ∷ r)) ↔ (a ≡ Some r))
    → ((r : List ℕ) → (a ≡ Some (option_words out_first out_second s.out r)) ↔ (b ≡ Some r))
    → ((r : List ℕ) → (b ≡ Some (option_words reply_first reply_second (message_at s.got 0) r)) ↔ (c ≡ Some r))
    → ((r : List ℕ) → (c ≡ Some (option_words reply_first reply_second (message_at s.got 1) r)) ↔ (z ≡ Some r))
    → (IsTrue t ↔ (z ≡ Some [])) → IsTrue t ↔ (proc_body s ≡ body)
whole_proc s body n a b c z t en f g h k l =
    let second = option_words reply_first reply_second (message_at s.got 1) [] in
    let first = option_words reply_first reply_second (message_at s.got 0) second in
    let out = option_words out_first out_second s.out first in
    let same : n ∷ out ≡ proc_body s = ap (λ m. m ∷ out) en in (
      λ e. sym (ap (λ o. unwrap_or o []) ((f out).1 ((g first).1 ((h second).1 ((k []).1 (l.0 e))))) ∙ same),
      λ e. l.1 ((k []).0 ((h second).0 ((g first).0 ((f out).0 (ap Some (sym e ∙ sym same)))))),
    )
