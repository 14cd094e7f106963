-- Lemmas on lines, on the output of a line, and on the store after it.
use Rattle.std.proofs.Common.{◌≡◌, ℕ, ◌<◌, ◌≤◌, Bool, true, false, ◌||◌, cond, List, [], ◌∷◌, ◌++◌, length, refl, sym, ◌∙◌, ap, append_assoc, append-nil, arith}
use Rattle.std.proofs.lemmas.Bool.Decides.{nat_tests}
use Rattle.std.specs.Prelude.{◌==◌}
use Rattle.bench_shell.specs.Lines.{Line, Whole, Cut, lines_of, onto_line}
use Rattle.bench_shell.specs.Store.{Store}
use Rattle.bench_shell.specs.Text.{line_text}
use Rattle.bench_shell.specs.Output.{output, output_lines, after_lines, store_after, is_long, reply, after, command_in, FirstIs}
use Rattle.bench_shell.specs.Steps.{has_lf, Splits}
use Rattle.bench_shell.specs.declared.answer.Answer.TheVariants.{BadLine, BadCut}

whole_step : (t : Bool) (b : ℕ) (bs : List ℕ) (ls rest : List Line) → t || has_lf bs ≡ false
    → (has_lf bs ≡ false → ls ≡ Whole bs ∷ rest)
    → cond t (Whole [] ∷ ls) (onto_line b ls) ≡ Whole (b ∷ bs) ∷ rest
whole_step true b bs ls rest p ih = cc
whole_step false b bs ls rest p ih = rw (ih p) refl

pub lines_of-whole : (h more : List ℕ) → has_lf h ≡ false → lines_of (h ++ 10 ∷ more) ≡ Whole h ∷ lines_of more
lines_of-whole [] more p = refl
lines_of-whole (b ∷ bs) more p = whole_step (b == 10) b bs (lines_of (bs ++ 10 ∷ more)) (lines_of more) p (lines_of-whole bs more)

cut_step : (t : Bool) (b c : ℕ) (bs : List ℕ) (ls : List Line) → t || has_lf (c ∷ bs) ≡ false
    → (has_lf (c ∷ bs) ≡ false → ls ≡ Cut (c ∷ bs) ∷ [])
    → cond t (Whole [] ∷ ls) (onto_line b ls) ≡ Cut (b ∷ c ∷ bs) ∷ []
cut_step true b c bs ls p ih = cc
cut_step false b c bs ls p ih = rw (ih p) refl

cut_one : (t : Bool) (b : ℕ) → t || false ≡ false → cond t (Whole [] ∷ []) (onto_line b []) ≡ Cut (b ∷ []) ∷ []
cut_one true b p = cc
cut_one false b p = refl

pub lines_of-cut : (b : ℕ) (h : List ℕ) → has_lf (b ∷ h) ≡ false → lines_of (b ∷ h) ≡ Cut (b ∷ h) ∷ []
lines_of-cut b [] p = cut_one (b == 10) b p
lines_of-cut b (c ∷ h) p = cut_step (b == 10) b c h (lines_of (c ∷ h)) p (lines_of-cut c h)

or_false : (t u : Bool) → t ≡ false → u ≡ false → t || u ≡ false
or_false t u p q = rw (p, q) refl

or_right : (t u : Bool) → t || u ≡ false → u ≡ false
or_right true u p = cc
or_right false u p = p

or_left : (t u : Bool) → t || u ≡ false → t ≡ false
or_left true u p = cc
or_left false u p = refl

pub has_lf-snoc : (h : List ℕ) (b : ℕ) → has_lf h ≡ false → (b == 10) ≡ false → has_lf (h ++ b ∷ []) ≡ false
has_lf-snoc [] b p q = or_false (b == 10) false q refl
has_lf-snoc (c ∷ h) b p q = or_false (c == 10) (has_lf (h ++ b ∷ [])) (or_left _ _ p) (has_lf-snoc h b (or_right _ _ p) q)

long_whole : (s : Store) (h : List ℕ) (ls : List Line) → is_long h ≡ true → output_lines s (Whole h ∷ ls) ≡ line_text BadLine ++ output_lines s ls
long_whole s h ls e = rw e refl

long_cut : (s : Store) (h : List ℕ) (ls : List Line) → is_long h ≡ true → output_lines s (Cut h ∷ ls) ≡ line_text BadLine ++ output_lines s ls
long_cut s h ls e = rw e refl

is_long-yes : (h : List ℕ) → 4096 < length h → is_long h ≡ true
is_long-yes h q = grind (arith, nat_tests)

pub is_long-no : (h : List ℕ) → length h ≤ 4096 → is_long h ≡ false
is_long-no h q = grind (arith, nat_tests)

short_whole : (s : Store) (h : List ℕ) (ls : List Line) → is_long h ≡ false
    → output_lines s (Whole h ∷ ls) ≡ line_text (reply s (command_in s h)) ++ output_lines (after s (command_in s h)) ls
short_whole s h ls e = rw e refl

short_cut : (s : Store) (h : List ℕ) → is_long h ≡ false → output_lines s (Cut h ∷ []) ≡ line_text BadCut
short_cut s h e = rw e refl

long_store : (s : Store) (h : List ℕ) (ls : List Line) → is_long h ≡ true → after_lines s (Whole h ∷ ls) ≡ after_lines s ls
long_store s h ls e = rw e refl

short_store : (s : Store) (h : List ℕ) (ls : List Line) → is_long h ≡ false → after_lines s (Whole h ∷ ls) ≡ after_lines (after s (command_in s h)) ls
short_store s h ls e = rw e refl

-- a line that has ended and is too long: its answer, and the store after it
pub output-long : (s : Store) (h : List ℕ) → has_lf h ≡ false → 4096 < length h → output s (h ++ 10 ∷ []) ≡ line_text BadLine
output-long s h p q = ap (output_lines s) (lines_of-whole h [] p) ∙ long_whole s h [] (is_long-yes h q) ∙ append-nil (line_text BadLine)

pub store-long : (s : Store) (h : List ℕ) → has_lf h ≡ false → 4096 < length h → store_after s (h ++ 10 ∷ []) ≡ s
store-long s h p q = ap (after_lines s) (lines_of-whole h [] p) ∙ long_store s h [] (is_long-yes h q)

-- and of any other
pub output-whole : (s : Store) (h : List ℕ) → has_lf h ≡ false → length h ≤ 4096 → output s (h ++ 10 ∷ []) ≡ line_text (reply s (command_in s h))
output-whole s h p q = ap (output_lines s) (lines_of-whole h [] p) ∙ short_whole s h [] (is_long-no h q) ∙ append-nil (line_text (reply s (command_in s h)))

pub store-whole : (s : Store) (h : List ℕ) → has_lf h ≡ false → length h ≤ 4096 → store_after s (h ++ 10 ∷ []) ≡ after s (command_in s h)
store-whole s h p q = ap (after_lines s) (lines_of-whole h [] p) ∙ short_store s h [] (is_long-no h q)

-- a line that the end cuts
pub output-cut-long : (s : Store) (h : List ℕ) → has_lf h ≡ false → 4096 < length h → output s h ≡ line_text BadLine
output-cut-long s [] p q = absurd (omega arith)
output-cut-long s (b ∷ h) p q = ap (output_lines s) (lines_of-cut b h p) ∙ long_cut s (b ∷ h) [] (is_long-yes (b ∷ h) q) ∙ append-nil (line_text BadLine)

pub output-cut : (s : Store) (h : List ℕ) → has_lf h ≡ false → 0 < length h → length h ≤ 4096 → output s h ≡ line_text BadCut
output-cut s [] p q r = absurd (omega arith)
output-cut s (b ∷ h) p q r = ap (output_lines s) (lines_of-cut b h p) ∙ short_cut s (b ∷ h) (is_long-no (b ∷ h) r)

pub store-cut : (s : Store) (h : List ℕ) → has_lf h ≡ false → store_after s h ≡ s
store-cut s [] p = refl
store-cut s (b ∷ h) p = ap (after_lines s) (lines_of-cut b h p)

-- it is one line at most
pub cut_is_one : (h : List ℕ) → has_lf h ≡ false → length (lines_of h) ≤ 1
cut_is_one [] p = omega arith
cut_is_one (b ∷ h) p = rw (lines_of-cut b h p) (omega arith)

pub whole_is_one : (h : List ℕ) → has_lf h ≡ false → length (lines_of (h ++ 10 ∷ [])) ≤ 1
whole_is_one h p = rw (lines_of-whole h [] p) (omega arith)

-- a text that ends where a line does splits what stands before and behind it
pub splits_none : Splits []
splits_none = λ more. refl

pub splits_line : (h : List ℕ) → has_lf h ≡ false → Splits (h ++ 10 ∷ [])
splits_line h p = λ more.
    ap lines_of (append_assoc h (10 ∷ []) more) ∙ lines_of-whole h more p ∙ sym (ap (λ ls. ls ++ lines_of more) (lines_of-whole h [] p))

pub splits_both : (a b : List ℕ) → Splits a → Splits b → Splits (a ++ b)
splits_both a b p q = λ more.
    ap lines_of (append_assoc a b more) ∙ p (b ++ more) ∙ ap (λ ls. lines_of a ++ ls) (q more) ∙ sym (append_assoc (lines_of a) (lines_of b) (lines_of more))
    ∙ sym (ap (λ ls. ls ++ lines_of more) (p b))

-- the answers to some lines and to more
answers_step : (t : Bool) (x y : List ℕ) (s s' : Store) (ls ms : List Line)
    → output_lines s (ls ++ ms) ≡ output_lines s ls ++ output_lines (after_lines s ls) ms
    → output_lines s' (ls ++ ms) ≡ output_lines s' ls ++ output_lines (after_lines s' ls) ms
    → cond t (x ++ output_lines s (ls ++ ms)) (y ++ output_lines s' (ls ++ ms))
    ≡ cond t (x ++ output_lines s ls) (y ++ output_lines s' ls) ++ output_lines (cond t (after_lines s ls) (after_lines s' ls)) ms
answers_step true x y s s' ls ms p q = ap (λ l. x ++ l) p ∙ sym (append_assoc x (output_lines s ls) (output_lines (after_lines s ls) ms))
answers_step false x y s s' ls ms p q = ap (λ l. y ++ l) q ∙ sym (append_assoc y (output_lines s' ls) (output_lines (after_lines s' ls) ms))

output_lines-append : (s : Store) (ls ms : List Line) → output_lines s (ls ++ ms) ≡ output_lines s ls ++ output_lines (after_lines s ls) ms
output_lines-append s [] ms = refl
output_lines-append s (Whole l ∷ ls) ms =
    let t = after s (command_in s l) in
    answers_step (is_long l) (line_text BadLine) (line_text (reply s (command_in s l))) s t ls ms (output_lines-append s ls ms) (output_lines-append t ls ms)
output_lines-append s (Cut l ∷ ls) ms =
    let x = line_text (cond (is_long l) BadLine BadCut) in
    ap (λ o. x ++ o) (output_lines-append s ls ms) ∙ sym (append_assoc x (output_lines s ls) (output_lines (after_lines s ls) ms))

stores_step : (t : Bool) (s s' : Store) (ls ms : List Line) → after_lines s (ls ++ ms) ≡ after_lines (after_lines s ls) ms
    → after_lines s' (ls ++ ms) ≡ after_lines (after_lines s' ls) ms
    → cond t (after_lines s (ls ++ ms)) (after_lines s' (ls ++ ms)) ≡ after_lines (cond t (after_lines s ls) (after_lines s' ls)) ms
stores_step true s s' ls ms p q = p
stores_step false s s' ls ms p q = q

after_lines-append : (s : Store) (ls ms : List Line) → after_lines s (ls ++ ms) ≡ after_lines (after_lines s ls) ms
after_lines-append s [] ms = refl
after_lines-append s (Whole l ∷ ls) ms =
    let t = after s (command_in s l) in
    stores_step (is_long l) s t ls ms (after_lines-append s ls ms) (after_lines-append t ls ms)
after_lines-append s (Cut l ∷ ls) ms = after_lines-append s ls ms

pub output-split : (s : Store) (a b : List ℕ) → Splits a → output s (a ++ b) ≡ output s a ++ output (store_after s a) b
output-split s a b p = ap (output_lines s) (p b) ∙ output_lines-append s (lines_of a) (lines_of b)

pub store-split : (s : Store) (a b : List ℕ) → Splits a → store_after s (a ++ b) ≡ store_after (store_after s a) b
store-split s a b p = ap (after_lines s) (p b) ∙ after_lines-append s (lines_of a) (lines_of b)

pub zero_lt : (xs : List ℕ) → (length xs == 0) ≡ false → 0 < length xs
zero_lt [] e = cc
zero_lt (x ∷ xs) e = omega arith

-- the first line, where it has ended, stays the first
first_onto : (P : List ℕ → Type 0) (b : ℕ) (ls ms : List Line) → (FirstIs (λ l. P (b ∷ l)) ls → FirstIs (λ l. P (b ∷ l)) ms) → FirstIs P (onto_line b ls) → FirstIs P (onto_line b ms)
first_onto P b [] ms f p = absurd p
first_onto P b (Cut l ∷ ls) ms f p = absurd p
first_onto P b (Whole l ∷ ls) [] f p = absurd (f p)
first_onto P b (Whole l ∷ ls) (Cut m ∷ ms) f p = absurd (f p)
first_onto P b (Whole l ∷ ls) (Whole m ∷ ms) f p = f p

first_step : (t : Bool) (P : List ℕ → Type 0) (b : ℕ) (ls ms : List Line) → (FirstIs (λ l. P (b ∷ l)) ls → FirstIs (λ l. P (b ∷ l)) ms)
    → FirstIs P (cond t (Whole [] ∷ ls) (onto_line b ls)) → FirstIs P (cond t (Whole [] ∷ ms) (onto_line b ms))
first_step true P b ls ms f p = p
first_step false P b ls ms f p = first_onto P b ls ms f p

pub first_stays : (P : List ℕ → Type 0) (text more : List ℕ) → FirstIs P (lines_of text) → FirstIs P (lines_of (text ++ more))
first_stays P [] more p = absurd p
first_stays P (b ∷ bs) more p = first_step (b == 10) P b (lines_of bs) (lines_of (bs ++ more)) (first_stays (λ l. P (b ∷ l)) bs more) p
