-- What `==` of entries, words and pages decides: that they are the same.
use Rattle.std.proofs.Common.{ℕ, ◌<◌, ◌≤◌, List, [], length, arith, refl, ◌≡◌, ap}
use Rattle.std.specs.Bool.{Decides}
use Rattle.std.specs.Cmp.{booleans_Decides}
use Rattle.std.proofs.lemmas.Bool.{false≢true}
use Rattle.std.proofs.lemmas.Bool.Decides.{Decides-and, Decides-eqb, Decides-like}
use Rattle.std.proofs.lemmas.List.{ext_get_or}
use Rattle.std.proofs.lemmas.Slice.Eq.{slice_eq-Decides}
use Rattle.page_map.specs.Places.{Page}
use Rattle.page_map.specs.Pages.{Pages}
use Rattle.page_map.specs.contracts.page.PagePartialEq.TheImpl as pages
use Rattle.page_map.specs.contracts.map.PageMapPartialEq.TheImpl as maps
use Rattle.omega_net.proofs.Same.{same_two, op_decides}
use Rattle.omega_net.specs.declared.script.ScriptEntry.{ScriptEntry}
use Rattle.omega_net.specs.declared.script.ScriptEntry.TheVariants.{Reference, Until, Fence, Idle}
use Rattle.omega_net.specs.contracts.script.ScriptEntryPartialEq.TheImpl as entries
use Rattle.project_book.specs.Scripts.{script_of}
use Rattle.project_book.specs.declared.words.FirstWord.{FirstWord}
use Rattle.project_book.specs.contracts.words.FirstWordPartialEq.TheImpl as words

pub word_decides : (a b : FirstWord) → Decides (words.eq-value.it a b) (a ≡ b)
word_decides a b =
    Decides-like _ (same_two (λ x y. record { address = x; word = y })) (λ e. (ap (λ w. w.address) e, ap (λ w. w.word) e))
    (Decides-and _ _ (Decides-eqb a.address b.address) (Decides-eqb a.word b.word))

pub entry_decides : (a b : ScriptEntry) → Decides (entries.eq-value.it a b) (a ≡ b)
entry_decides (Reference s o a t) (Reference s' o' a' t') =
    Decides-like _ (λ e. let x : s ≡ s' = e.0 in let y : o ≡ o' = e.1.0 in let z : a ≡ a' = e.1.1.0 in let w : t ≡ t' = e.1.1.1 in cc)
    (λ e. let x : s ≡ s' = cc in let y : o ≡ o' = cc in let z : a ≡ a' = cc in let w : t ≡ t' = cc in (x, (y, (z, w))))
    (Decides-and _ _ (booleans_Decides s s') (Decides-and _ _ (op_decides o o') (Decides-and _ _ (Decides-eqb a a') (Decides-eqb t t'))))
entry_decides (Reference s o a t) (Until s' o' a' v' t') = (λ h. absurd (false≢true h), λ e. cc)
entry_decides (Reference s o a t) Fence = (λ h. absurd (false≢true h), λ e. cc)
entry_decides (Reference s o a t) (Idle n') = (λ h. absurd (false≢true h), λ e. cc)
entry_decides (Until s o a v t) (Reference s' o' a' t') = (λ h. absurd (false≢true h), λ e. cc)
entry_decides (Until s o a v t) (Until s' o' a' v' t') =
    Decides-like _ (λ e. let x : s ≡ s' = e.0 in let y : o ≡ o' = e.1.0 in let z : a ≡ a' = e.1.1.0 in let q : v ≡ v' = e.1.1.1.0 in let w : t ≡ t' = e.1.1.1.1 in cc)
    (λ e. let x : s ≡ s' = cc in let y : o ≡ o' = cc in let z : a ≡ a' = cc in let q : v ≡ v' = cc in let w : t ≡ t' = cc in (x, (y, (z, (q, w)))))
    (Decides-and _ _ (booleans_Decides s s') (Decides-and _ _ (op_decides o o') (Decides-and _ _ (Decides-eqb a a') (Decides-and _ _ (Decides-eqb v v') (Decides-eqb t t')))))
entry_decides (Until s o a v t) Fence = (λ h. absurd (false≢true h), λ e. cc)
entry_decides (Until s o a v t) (Idle n') = (λ h. absurd (false≢true h), λ e. cc)
entry_decides Fence (Reference s' o' a' t') = (λ h. absurd (false≢true h), λ e. cc)
entry_decides Fence (Until s' o' a' v' t') = (λ h. absurd (false≢true h), λ e. cc)
entry_decides Fence Fence = (λ h. refl, λ e. refl)
entry_decides Fence (Idle n') = (λ h. absurd (false≢true h), λ e. cc)
entry_decides (Idle n) (Reference s' o' a' t') = (λ h. absurd (false≢true h), λ e. cc)
entry_decides (Idle n) (Until s' o' a' v' t') = (λ h. absurd (false≢true h), λ e. cc)
entry_decides (Idle n) Fence = (λ h. absurd (false≢true h), λ e. cc)
entry_decides (Idle n) (Idle n') = Decides-like _ (ap (λ m. Idle m)) (λ e. cc) (Decides-eqb n n')

-- lists that are the same at each place are the same
pub same_lists : (xs ys : List (List ScriptEntry)) (n : ℕ) → length xs ≡ length ys → length xs ≤ n → ((p : ℕ) → p < n → script_of xs p ≡ script_of ys p) → xs ≡ ys
same_lists xs ys n many most each = ext_get_or [] xs ys many (λ i below. each i (omega (arith, below, most)))

page_decides : (a b : Page) → Decides (pages.eq-value.it a b) (a ≡ b)
page_decides a b =
    Decides-like _ (same_two (λ x y. record { amount = x; base = y })) (λ e. (ap (λ p. p.amount) e, ap (λ p. p.base) e))
    (Decides-and _ _ (Decides-eqb a.amount b.amount) (Decides-eqb a.base b.base))

pub map_decides : (a b : Pages) → Decides (maps.eq-value.it a b) (a ≡ b)
map_decides a b =
    Decides-like _ (same_two (λ x y. record { k = x; pages = y })) (λ e. (ap (λ p. p.k) e, ap (λ p. p.pages) e))
    (Decides-and _ _ (Decides-eqb a.k b.k) (slice_eq-Decides page_decides a.pages b.pages _ refl))
