-- No state has no words, and only a module's words leave something out.
use Rattle.std.proofs.Common.{◌≡◌, ℕ, ◌%◌, ◌^◌, Bool, true, false, cond, refl, List, drop, slice_index, Option, None, nat_eq, rules}
use Rattle.mem_module.specs.declared.words.Stored.{Stored}
use Rattle.grid_law.specs.Codec.{CodecLaws}
use Rattle.machine_cells.specs.declared.state.MachineState.TheVariants.{Proc, Module, Low, Comb}
use Rattle.state_words.specs.Reading.{proc_from, module_from, low_from, comb_from}
use Rattle.machine_cells.specs.Words.{state_from}
use Rattle.machine_cells.specs.Codec.{memory_in, or_none, rp3_codec}

-- by the kind that the head has
by_kind : (a b c : Bool) (h : ℕ) (ws : List ℕ) (memory other : List Stored)
    → memory_in (cond a (Proc (proc_from h ws)) (cond b (Module (module_from h ws memory)) (cond c (Low (low_from h ws)) (Comb (comb_from h ws))))) ≡ None
    → cond a (Proc (proc_from h ws)) (cond b (Module (module_from h ws memory)) (cond c (Low (low_from h ws)) (Comb (comb_from h ws))))
    ≡ cond a (Proc (proc_from h ws)) (cond b (Module (module_from h ws other)) (cond c (Low (low_from h ws)) (Comb (comb_from h ws))))
by_kind true b c h ws memory other e = refl
by_kind false true c h ws memory other e = search rules
by_kind false false true h ws memory other e = refl
by_kind false false false h ws memory other e = refl

alone : (ws : List ℕ) (m n : Option (List Stored)) → memory_in (state_from ws (or_none m)) ≡ None → state_from ws (or_none m) ≡ state_from ws (or_none n)
alone ws m n e =
    let h = slice_index ws 0 in
    by_kind (nat_eq (h % 2 ^ 2) 0) (nat_eq (h % 2 ^ 2) 1) (nat_eq (h % 2 ^ 2) 2) h (drop 1 ws) (or_none m) (or_none n) e

pub the_codec_laws : CodecLaws rp3_codec
the_codec_laws = record {
  some = λ x e. search rules;
  alone = alone;
}
