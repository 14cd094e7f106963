-- The depths that a row leaves: those of a row before it don't matter where both set the same queues.
use Rattle.std.proofs.Common.{◌≡◌, ℕ, Bool, true, false, ◌||◌, List, [], ◌∷◌, map, refl, sym, ap, ◌∙◌}
use Rattle.std.specs.Prelude.{if◌then◌else◌}
use Rattle.std.proofs.lemmas.Bool.{or_parts}
use Rattle.project_book.specs.declared.edit.Depths.{Depths}
use Rattle.project_book.specs.declared.edit.Depths.TheVariants.{LowForward, LowReverse, CombForward, CombReverse, ModuleQueue}
use Rattle.project_book.specs.declared.depths.QueueDepths.{QueueDepths}
use Rattle.project_book.specs.Queues.{depth_in, with_depth}
use Rattle.project_book.specs.Project.{Project}
use Rattle.lab_tasks.specs.declared.swept.Setting.{Setting}
use Rattle.lab_tasks.specs.Sweeps.{with_settings}

abbrev same : Depths → Depths → Bool
same LowForward LowForward = true
same LowReverse LowReverse = true
same CombForward CombForward = true
same CombReverse CombReverse = true
same ModuleQueue ModuleQueue = true
same _ _ = false

-- the queues that a row sets, in turn
abbrev pub queues : List Setting → List Depths
queues row = map (λ s. s.queue) row

-- whether some queues are among them
abbrev names : List Depths → Depths → Bool
names [] q = false
names (r ∷ rs) q = same r q || names rs q

-- the depth of some queues after a row
abbrev depth_after : List Setting → Depths → ℕ → ℕ
depth_after [] q d = d
depth_after (s ∷ row) q d = depth_after row q (if same s.queue q then s.depth else d)

depth-with : (ds : QueueDepths) (r : Depths) (d : ℕ) (q : Depths) → depth_in (with_depth ds r d) q ≡ (if same r q then d else depth_in ds q)
depth-with ds LowForward d LowForward = refl
depth-with ds LowForward d q = refl
depth-with ds LowReverse d LowReverse = refl
depth-with ds LowReverse d q = refl
depth-with ds CombForward d CombForward = refl
depth-with ds CombForward d q = refl
depth-with ds CombReverse d CombReverse = refl
depth-with ds CombReverse d q = refl
depth-with ds ModuleQueue d ModuleQueue = refl
depth-with ds ModuleQueue d q = refl

-- the depths of queues where those of a row are set
abbrev with_row : QueueDepths → List Setting → QueueDepths
with_row ds [] = ds
with_row ds (s ∷ row) = with_row (with_depth ds s.queue s.depth) row

depth-with_row : (ds : QueueDepths) (row : List Setting) (q : Depths) → depth_in (with_row ds row) q ≡ depth_after row q (depth_in ds q)
depth-with_row ds [] q = refl
depth-with_row ds (s ∷ row) q = depth-with_row (with_depth ds s.queue s.depth) row q ∙ ap (depth_after row q) (depth-with ds s.queue s.depth q)

-- only the depths change
with_settings-depths : (P : Project) (row : List Setting) → with_settings P row ≡ record P { depths = with_row P.depths row }
with_settings-depths P [] = refl
with_settings-depths P (s ∷ row) = with_settings-depths (record P { depths = with_depth P.depths s.queue s.depth }) row

-- a row leaves the queues that it doesn't set
depth-left : (row : List Setting) (q : Depths) (d : ℕ) → names (queues row) q ≡ false → depth_after row q d ≡ d
depth-left [] q d e = refl
depth-left (s ∷ row) q d e =
    let other = or_parts (same s.queue q) (names (queues row) q) e in
    rw other.0 (depth-left row q d other.1)

chosen : (b c : Bool) (f : ℕ → ℕ) (x d e : ℕ) → (c ≡ true → f d ≡ f e) → (b || c) ≡ true → f (if b then x else d) ≡ f (if b then x else e)
chosen true c f x d e h n = refl
chosen false c f x d e h n = h n

-- the depth before doesn't matter where a row sets it
depth-set : (row : List Setting) (q : Depths) (d e : ℕ) → names (queues row) q ≡ true → depth_after row q d ≡ depth_after row q e
depth-set [] q d e n = cc
depth-set (s ∷ row) q d e n = chosen (same s.queue q) (names (queues row) q) (depth_after row q) s.depth d e (depth-set row q d e) n

depth-twice_by : (row later : List Setting) (q : Depths) (d : ℕ) (b : Bool) → queues row ≡ queues later → names (queues later) q ≡ b
    → depth_after later q (depth_after row q d) ≡ depth_after later q d
depth-twice_by row later q d true e n = depth-set later q (depth_after row q d) d n
depth-twice_by row later q d false e n = ap (depth_after later q) (depth-left row q d (ap (λ (qs : List Depths). names qs q) e ∙ n))

abbrev depths_of : ℕ → ℕ → ℕ → ℕ → ℕ → QueueDepths
depths_of a b c d e = record { low_forward = a; low_reverse = b; comb_forward = c; comb_reverse = d; module_queue = e }

same_depths : (ds es : QueueDepths) → ((q : Depths) → depth_in ds q ≡ depth_in es q) → ds ≡ es
same_depths ds es h =
    let all : depths_of ds.low_forward ds.low_reverse ds.comb_forward ds.comb_reverse ds.module_queue
    ≡ depths_of es.low_forward es.low_reverse es.comb_forward es.comb_reverse es.module_queue
    = rw (h LowForward, h LowReverse, h CombForward, h CombReverse, h ModuleQueue) refl in all

depths-twice : (ds : QueueDepths) (row later : List Setting) → queues row ≡ queues later → with_row (with_row ds row) later ≡ with_row ds later
depths-twice ds row later e =
    same_depths (with_row (with_row ds row) later) (with_row ds later)
    (λ q. depth-with_row (with_row ds row) later q ∙ ap (depth_after later q) (depth-with_row ds row q)
    ∙ depth-twice_by row later q (depth_in ds q) (names (queues later) q) e refl ∙ sym (depth-with_row ds later q))

-- a row over another that sets the same queues
pub with_settings-twice : (P : Project) (row later : List Setting) → queues row ≡ queues later → with_settings (with_settings P row) later ≡ with_settings P later
with_settings-twice P row later e =
    ap (λ (Q : Project). with_settings Q later) (with_settings-depths P row)
    ∙ with_settings-depths (record P { depths = with_row P.depths row }) later
    ∙ ap (λ (ds : QueueDepths). record P { depths = ds }) (depths-twice P.depths row later e)
    ∙ sym (with_settings-depths P later)
