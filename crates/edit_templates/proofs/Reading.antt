-- Templates by the parts of a text.
use Rattle.std.proofs.Common.{◌≡◌, ℕ, ◌==◌, List, [], ◌∷◌, map, refl, sym, ap, ◌∙◌, Bor}
use Rattle.std.specs.Prelude.{Option, Some, None, option_map}
use Rattle.std.specs.List.{slice_split}
use Rattle.edit_templates.specs.Templates.{Brace, all_of, brace_of, template_of, template_parts}

abbrev pub now : Bor (List ℕ) → List ℕ
now w = w.now

both : (k : ℕ) (others : List (Bor (List ℕ))) → map (brace_of k) (map now others) ≡ map (λ (text : Bor (List ℕ)). brace_of k text.now) others
both k [] = refl
both k (text ∷ others) = ap (λ (more : List (Option Brace)). brace_of k text.now ∷ more) (both k others)

read_by : (k : ℕ) (text : List ℕ) (parts : List (Bor (List ℕ))) (first : Bor (List ℕ)) (others : List (Bor (List ℕ))) (o : Option (List Brace))
    → map now parts ≡ slice_split (λ b. b == 123) text → parts ≡ first ∷ others → all_of (map (λ (text : Bor (List ℕ)). brace_of k text.now) others) ≡ o
    → template_of k text ≡ option_map (λ braces. (first.now, braces)) o
read_by k text parts first others o cut at all =
    ap (template_parts k) (sym cut ∙ ap (map now) at)
    ∙ ap (λ (q : Option (List Brace)). option_map (λ braces. (first.now, braces)) q) (ap (λ (ps : List (Option Brace)). all_of ps) (both k others) ∙ all)

pub read-some : (k : ℕ) (text : List ℕ) (parts : List (Bor (List ℕ))) (first : Bor (List ℕ)) (others : List (Bor (List ℕ))) (braces : List Brace)
    → map now parts ≡ slice_split (λ b. b == 123) text → parts ≡ first ∷ others → all_of (map (λ (text : Bor (List ℕ)). brace_of k text.now) others) ≡ Some braces
    → template_of k text ≡ Some (first.now, braces)
read-some k text parts first others braces cut at all = read_by k text parts first others (Some braces) cut at all

pub read-none : (k : ℕ) (text : List ℕ) (parts : List (Bor (List ℕ))) (first : Bor (List ℕ)) (others : List (Bor (List ℕ)))
    → map now parts ≡ slice_split (λ b. b == 123) text → parts ≡ first ∷ others → all_of (map (λ (text : Bor (List ℕ)). brace_of k text.now) others) ≡ None
    → template_of k text ≡ None
read-none k text parts first others cut at all = read_by k text parts first others None cut at all
