-- What a list of moves has on a wire is what goes over that wire.
use Rattle.std.proofs.Common.{◌≡◌, Bool, true, false, cond, List, [], ◌∷◌, ◌++◌, refl, ap, ◌∙◌, Option, None, Some}
use Rattle.std.specs.Prelude.{◌||◌}
use Rattle.std.specs.List.{flat_map, list_any}
use Rattle.omega_net.specs.declared.message.Request.{Request}
use Rattle.omega_net.specs.declared.message.Reply.{Reply}
use Rattle.omega_net.specs.declared.wire.Wire.{Wire}
use Rattle.omega_net.specs.Wires.{same_wire}
use Rattle.omega_net.proofs.Wiring.{same_wire-true}
use Rattle.machine_cells.specs.Moves.{Move, forward_moves, back_moves, moved_request, moved_reply}

abbrev pub if_found : {X : Type 0} → Bool → Option X → Option X
if_found b o = cond b o None

nothing_found : {X : Type 0} (found : Bool) (o : Option X) → None ≡ o → if_found found o ≡ o
nothing_found true o e = refl
nothing_found false o e = e

-- one wire more: what it has counts where it is the one that is looked for
request_more : (v w : Wire) (a : Option Request) (b : Option Reply) (rest : List Move) (same found : Bool) (o : Option Request)
    → same_wire v w ≡ same → (same ≡ true → a ≡ o) → moved_request rest w ≡ if_found found o
    → moved_request (forward_moves v a ++ back_moves v b ++ rest) w ≡ if_found (same || found) o
request_more v w (Some r) (Some y) rest true found o e at_it ih = rw e (at_it refl)
request_more v w (Some r) None rest true found o e at_it ih = rw e (at_it refl)
request_more v w (Some r) (Some y) rest false found o e at_it ih = rw e ih
request_more v w (Some r) None rest false found o e at_it ih = rw e ih
request_more v w None None rest false found o e at_it ih = ih
request_more v w None (Some y) rest false found o e at_it ih = rw e ih
request_more v w None None rest true found o e at_it ih = ih ∙ nothing_found found o (at_it refl)
request_more v w None (Some y) rest true found o e at_it ih = rw e (ih ∙ nothing_found found o (at_it refl))

reply_more : (v w : Wire) (a : Option Request) (b : Option Reply) (rest : List Move) (same found : Bool) (o : Option Reply)
    → same_wire v w ≡ same → (same ≡ true → b ≡ o) → moved_reply rest w ≡ if_found found o
    → moved_reply (forward_moves v a ++ back_moves v b ++ rest) w ≡ if_found (same || found) o
reply_more v w (Some r) (Some y) rest true found o e at_it ih = rw e (at_it refl)
reply_more v w None (Some y) rest true found o e at_it ih = rw e (at_it refl)
reply_more v w (Some r) (Some y) rest false found o e at_it ih = rw e ih
reply_more v w None (Some y) rest false found o e at_it ih = rw e ih
reply_more v w None None rest false found o e at_it ih = ih
reply_more v w (Some r) None rest false found o e at_it ih = rw e ih
reply_more v w None None rest true found o e at_it ih = ih ∙ nothing_found found o (at_it refl)
reply_more v w (Some r) None rest true found o e at_it ih = rw e (ih ∙ nothing_found found o (at_it refl))

module _ (f : Wire → Option Request) (g : Wire → Option Reply) where
  -- the moves over these wires
  abbrev over : List Wire → List Move
  over ws = flat_map (λ w. forward_moves w (f w) ++ back_moves w (g w)) ws

  pub request_found : (ws : List Wire) (w : Wire) → moved_request (over ws) w ≡ if_found (list_any (λ v. same_wire v w) ws) (f w)
  request_found [] w = refl
  request_found (v ∷ ws) w =
      request_more v w (f v) (g v) (over ws) (same_wire v w) _ (f w) refl (λ same. ap f (same_wire-true v w same)) (request_found ws w)

  pub reply_found : (ws : List Wire) (w : Wire) → moved_reply (over ws) w ≡ if_found (list_any (λ v. same_wire v w) ws) (g w)
  reply_found [] w = refl
  reply_found (v ∷ ws) w =
      reply_more v w (f v) (g v) (over ws) (same_wire v w) _ (g w) refl (λ same. ap g (same_wire-true v w same)) (reply_found ws w)
