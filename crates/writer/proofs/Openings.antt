-- What an opening that is not refused says. Assumes nothing.
use Rattle.std.proofs.Common.{◌≡◌, ℕ, ◌*◌, ◌/◌, ◌<◌, ◌≤◌, min, Bool, true, false, cond, ◌&&◌, eqb, leb, List, length, Some, None, Option, sym, refl, ap, ◌∙◌, subst, mul-le-mul_right, arith}
use Rattle.std.proofs.lemmas.Nat.{le-div, div-add-mod'}
use Rattle.std.proofs.lemmas.Bool.{leb-true, eqb-true, and_parts}
use Rattle.proto.specs.declared.datanode.Datanode.{Datanode}
use Rattle.proto.specs.declared.token.Token.{Token}
use Rattle.chain.specs.declared.link.Link as Link
use Rattle.pipeline.specs.Channels.{ChannelView}
use Rattle.pipeline.specs.declared.set_up.SetupRequest.{SetupRequest}
use Rattle.pipeline.specs.Replies.{Reply}
use Rattle.pipeline.specs.SetUps.{Wants, SetsUp}
use Rattle.writer.specs.declared.admit.Lengths.{Lengths}
use Rattle.writer.specs.declared.opening.Opening.{Opening}
use Rattle.writer.specs.declared.refusal.Refusal.{Refusal}
use Rattle.writer.specs.declared.refusal.Refusal.TheVariants as refusal
use Rattle.writer.specs.declared.terms.Terms.{Terms}
use Rattle.writer.specs.Opening.{capacity_in, by_length, by_count, by_form, by_buffers, later_refusal, stage_for, block_for, open_refusal, SetsUpFor, Started, Opens}
use Rattle.writer.specs.Refusals.{or_else}
use Rattle.writer.specs.Settling.{Settles}
use Rattle.writer.specs.Views.{View}

pub slots_bound : (r store k : ℕ) → 0 < k → 3 * k ≤ store → r ≡ min 101 (store / k) → (3 ≤ r) × (r ≤ 101) × (r * k ≤ store)
slots_bound r store k some three e =
    let d = le-div 3 store k some three in
    let le : r ≤ store / k = omega (arith, e) in
    let m = mul-le-mul_right k le in
    (omega (arith, e, d), omega (arith, e), omega (arith, m, div-add-mod' store k))

-- only one way out of a test
is_none : (b : Bool) (x y : Option Refusal) (r : Refusal) → y ≡ Some r → cond b x y ≡ None → (b ≡ true) × (x ≡ None)
is_none true x y r e h = (refl, h)
is_none false x y r e h = absurd (let z : ◌≡◌ {A = ℕ} 0 1 = cc in omega arith)

is_none_else : (b : Bool) (r : Refusal) → cond b (Some r) None ≡ None → b ≡ false
is_none_else true r h = absurd (let z : ◌≡◌ {A = ℕ} 0 1 = cc in omega arith)
is_none_else false r h = refl

pub store_fits : (o : Opening) (l : Lengths) → by_buffers o l ≡ None → 3 * capacity_in o ≤ l.store
store_fits o l h = leb-true _ _ (is_none (leb (3 * capacity_in o) l.store) _ (Some refusal.Store) refusal.Store refl h).0

pub record CountsFit (o : Opening) : Type 0 where
  pub some : 1 ≤ length o.infos.now
  pub few : length o.infos.now ≤ 8
  pub names : length o.storage_ids.now ≡ length o.infos.now
  pub types : length o.storage_types.now ≡ length o.infos.now

pub counts_fit : (o : Opening) → by_count o ≡ None → CountsFit o
counts_fit o h =
    let n = length o.infos.now in
    let b = (is_none (leb 1 n && (leb n 8 && (eqb (length o.storage_ids.now) n && eqb (length o.storage_types.now) n))) None (Some refusal.Nodes) refusal.Nodes refl h).0 in
    let p = and_parts (leb 1 n) (leb n 8 && (eqb (length o.storage_ids.now) n && eqb (length o.storage_types.now) n)) b in
    let q = and_parts (leb n 8) (eqb (length o.storage_ids.now) n && eqb (length o.storage_types.now) n) p.1 in
    let r = and_parts (eqb (length o.storage_ids.now) n) (eqb (length o.storage_types.now) n) q.1 in
    record { some = leb-true _ _ p.0; few = leb-true _ _ q.0; names = eqb-true _ _ r.0; types = eqb-true _ _ r.1 }

pub later_none : (o : Opening) (l : Lengths) → by_length o ≡ None → by_count o ≡ None → by_form o ≡ None → by_buffers o l ≡ None → later_refusal o l ≡ None
later_none o l a b c d =
    ap (λ (x : Option Refusal). or_else x (or_else (by_count o) (or_else (by_form o) (by_buffers o l)))) a
    ∙ ap (λ (x : Option Refusal). or_else x (or_else (by_form o) (by_buffers o l))) b
    ∙ ap (λ (x : Option Refusal). or_else x (by_buffers o l)) c ∙ d

-- the set up that was made is that of these datanodes
pub set_up_for : {L : Type 0} (acts : Link.Ghosts L) (o : Opening) (t : Terms) (token : Token) (nodes chain : List Datanode) (s : ChannelView L) (reply : Reply) (u : ChannelView L) {wanted : SetupRequest}
    → SetsUp acts wanted nodes s reply u → nodes ≡ chain
    → Wants (block_for o t) token t.client_name (stage_for o.initial_len) o.initial_len o.initial_len o.stamp o.chunk_size wanted
    → SetsUpFor acts o t token chain s reply u
set_up_for acts o t token nodes chain s reply u {wanted} d e wants = record {
  wanted = wanted;
  wants = wants;
  sets_up = subst (λ (ns : List Datanode). SetsUp acts wanted ns s reply u) e d;
}

-- an opening that is not refused before its set up
pub opened : {L : Type 0} (acts : Link.Ghosts L) (o : Opening) (l : Lengths) (nodes : List Datanode) (t : Terms) (token : Token) (s : ChannelView L) (reply : Reply) (r : Option Refusal) (w : View) (u : ChannelView L)
    → Settles (open_refusal o l) o l nodes t token → SetsUpFor acts o t token nodes s reply u → Started reply o l token nodes r w
    → Opens acts (open_refusal o l) o l s r w u
opened acts o l nodes t token s reply r w u d f z =
    subst (λ (x : Option Refusal). Opens acts x o l s r w u) (sym d.good)
    (record { nodes = nodes; rows = d.rows; token = token; given = d.given; terms = t; settled = d.terms; reply = reply; sets_up = f; follows = z })
