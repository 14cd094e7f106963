-- Combining at the first stages.
use Rattle.std.proofs.Common.{◌≡◌, ℕ, zero, suc, ◌+◌, ◌-◌, ◌<◌, ◌≤◌, Bool, true, false, List, ◌∷◌, ◌++◌, replicate, refl, sym, ap, ◌∙◌, arith, add-one}
use Rattle.std.specs.Prelude.{slice_set}
use Rattle.page_map.specs.Limits.{max_k}
use Rattle.project_book.specs.Project.{Project}
use Rattle.project_book.specs.declared.edit.Edit.TheVariants.{Combine}
use Rattle.project_book.specs.Edits.{edited}
use Rattle.experiments.specs.declared.load.Load.{Load}
use Rattle.experiments.specs.declared.offer.Offer.{Offer}
use Rattle.experiments.specs.Loads.{loaded}
use Rattle.experiments.specs.Offers.{project_offered}
use Rattle.lab_tasks.specs.Kept.{kept_of, kept_offer}

-- the first value behind some is set to be as they are
set_behind : (s : ℕ) (x y : Bool) (ys : List Bool) → slice_set (replicate s x ++ y ∷ ys) s x ≡ replicate (suc s) x ++ ys
set_behind zero x y ys = refl
set_behind (suc s) x y ys = ap (λ l. x ∷ l) (set_behind s x y ys)

-- one stage more
pub stage_next : (n s : ℕ) → s < n
    → slice_set (replicate s true ++ replicate (n - s) false) s true ≡ replicate (s + 1) true ++ replicate (n - (s + 1)) false
stage_next n s lt =
    let d : n - s ≡ suc (n - suc s) = omega arith in
    rw add-one (ap (λ m. slice_set (replicate s true ++ replicate m false) s true) d ∙ set_behind s true false (replicate (n - suc s) false))

-- some copies and some more
replicate_sum : (x : Bool) (a b c : ℕ) → a + b ≡ c → replicate a x ++ replicate b x ≡ replicate c x
replicate_sum x zero b c e = let same : b ≡ c = omega arith in ap (λ n. replicate n x) same
replicate_sum x (suc a) b zero e = absurd (omega arith)
replicate_sum x (suc a) b (suc c) e = ap (λ l. x ∷ l) (replicate_sum x a b c (omega arith))

-- no stage combines
pub no_stage : (n k : ℕ) → k ≤ n → replicate n false ≡ replicate k false ++ replicate (n - k) false
no_stage n k le = let e : k + (n - k) ≡ n = omega arith in sym (replicate_sum false k (n - k) n e)

-- the project that is kept where no stage combines
pub none_kept : (load : Load) → load.k ≤ max_k → load.combine ≡ false → loaded (record load { combine = false }) ≡ kept_of load
none_kept load le off =
    ap (λ (flags : List Bool). record (loaded load) { combine = flags })
    (no_stage max_k load.k le ∙ ap (λ on. replicate load.k on ++ replicate (max_k - load.k) false) (sym off))

-- combining at the first stages, and one more
abbrev pub first_stages : Load → ℕ → Project
first_stages load n = record (loaded load) { combine = replicate n true ++ replicate (max_k - n) false }

pub stage_kept : (load : Load) (before after : Project) (stage : ℕ) → stage < max_k → before ≡ first_stages load stage
    → after ≡ edited before (Combine stage true) → after ≡ first_stages load (stage + 1)
stage_kept load before after stage lt at set =
    set ∙ ap (λ P. edited P (Combine stage true)) at
    ∙ ap (λ (flags : List Bool). record (loaded load) { combine = flags }) (stage_next max_k stage lt)

-- the same of an offered load
pub none_offered : (o : Offer) → o.load.k ≤ max_k → o.load.combine ≡ false
    → project_offered (record o { load = record o.load { combine = false } }) ≡ kept_offer o
none_offered o le off =
    ap (λ (flags : List Bool). record (project_offered o) { combine = flags })
    (no_stage max_k o.load.k le ∙ ap (λ on. replicate o.load.k on ++ replicate (max_k - o.load.k) false) (sym off))

abbrev pub offered_stages : Offer → ℕ → Project
offered_stages o n = record (project_offered o) { combine = replicate n true ++ replicate (max_k - n) false }

pub stage_offered : (o : Offer) (before after : Project) (stage : ℕ) → stage < max_k → before ≡ offered_stages o stage
    → after ≡ edited before (Combine stage true) → after ≡ offered_stages o (stage + 1)
stage_offered o before after stage lt at set =
    set ∙ ap (λ P. edited P (Combine stage true)) at
    ∙ ap (λ (flags : List Bool). record (project_offered o) { combine = flags }) (stage_next max_k stage lt)
