-- A list of commands, call by call. Assumes nothing.
use Rattle.std.proofs.Common.{◌≡◌, ℕ, zero, suc, ◌+◌, ◌<◌, List, [], ◌∷◌, ◌++◌, length, map, take, drop, set, get_or, min, Some, Option, sym, refl, ap, ◌∙◌, subst, not-suc-le-zero, arith, length-append, length-drop}
use Rattle.std.proofs.lemmas.List.{take_more, map-append, length-map, drop-drop}
use Rattle.chain.specs.declared.link.Link as Link
use Rattle.chain.specs.Meaning.{Seen}
use Rattle.namenode.specs.declared.protocol.NamenodeProtocol as NamenodeProtocol
use Rattle.namenode.specs.Entries.{Entry}
use Rattle.runs.specs.declared.command.Command.{Command}
use Rattle.runs.specs.declared.command.Outcome.{Outcome}
use Rattle.writer.specs.declared.opening.Opening.{Opening}
use Rattle.runs.specs.Begins.{Begins}
use Rattle.runs.specs.History.{History}
use Rattle.runs.specs.Law.{Law}
use Rattle.runs.specs.Made.{Made}
use Rattle.runs.specs.Runs.{Point, Step, Run, here, then}

-- a place that is filled behind those that are
filled : {X : Type 0} (n : ℕ) (xs ys : List X) (y : X) → length xs ≡ n → 0 < length ys → set (xs ++ ys) n y ≡ (xs ++ y ∷ []) ++ drop 1 ys
filled zero [] [] y e some = absurd (not-suc-le-zero some)
filled zero [] (z ∷ ys) y e some = refl
filled zero (x ∷ xs) ys y e some = absurd (omega (arith, e))
filled (suc n) [] ys y e some = absurd (omega (arith, e))
filled (suc n) (x ∷ xs) ys y e some = ap (λ (l : List _). x ∷ l) (filled n xs ys y (omega (arith, e)) some)

module _ {C N : Type 0} (acts : Link.Ghosts C) (asks : NamenodeProtocol.Ghosts N) (seen : C → Seen) where
  pub joined : (cs ds : List Command) (os us : List Outcome) (p q r : Point C N) → Run acts asks seen cs p os q → Run acts asks seen ds q us r → Run acts asks seen (cs ++ ds) p (os ++ us) r
  joined _ ds _ us p _ r here next = next
  joined _ ds _ us p q r (then {c = c} {cs = cs} {o = o} {os = os} m step run) next = then m step (joined cs ds os us m q r run next)

  pub one : (c : Command) (o : Outcome) (p q : Point C N) → Step acts asks seen c p o q → Run acts asks seen (c ∷ []) p (o ∷ []) q
  one c o p q step = then q step here

  -- the first i calls
  pub record Sofar (before : Point C N) (commands : List Command) (places : List (Option Outcome)) (i : ℕ) (after : History → Point C N) (told : List (Option Outcome)) : Type 0 where
    pub history : History
    pub outcomes : List Outcome
    pub count : length outcomes ≡ i
    pub run : Run acts asks seen (take i commands) before outcomes (after history)
    pub tells : told ≡ map Some outcomes ++ drop i places

  module _ (commands : List Command) (places : List (Option Outcome)) where
    pub begin : (h : History) (before : History → Point C N) → Sofar (before h) commands places 0 before places
    begin h before = record { history = h; outcomes = []; count = refl; run = here; tells = refl }

    pub more : (before : Point C N) (i : ℕ) (m n : History → Point C N) (told : List (Option Outcome)) (c d : Command) (o : Outcome) → Sofar before commands places i m told
        → i < length commands → c ≡ get_or commands i d → i < length places
        → ((k : History) → (l : History) × Step acts asks seen c (m k) o (n l)) → Sofar before commands places (i + 1) n (set told i (Some o))
    more before i m n told c d o s less is room step =
        let next = step s.history in
        let front = take_more commands i d less ∙ ap (λ (x : Command). take i commands ++ x ∷ []) (sym is) in
        let long : length (map Some s.outcomes) ≡ i = length-map s.outcomes Some ∙ s.count in
        let left : 0 < length (drop i places) = omega (arith, length-drop i places) in
        let rest : drop 1 (drop i places) ≡ drop (i + 1) places = drop-drop 1 i places in
        record {
          history = next.0;
          outcomes = s.outcomes ++ o ∷ [];
          count = omega (arith, s.count, length-append s.outcomes (o ∷ []));
          run = subst (λ (cs : List Command). Run acts asks seen cs before (s.outcomes ++ o ∷ []) (n next.0)) (sym front) (joined (take i commands) (c ∷ []) s.outcomes (o ∷ []) before (m s.history) (n next.0) s.run (one c o (m s.history) (n next.0) next.1));
          tells = ap (λ (l : List (Option Outcome)). set l i (Some o)) s.tells ∙ filled i (map Some s.outcomes) (drop i places) (Some o) long left ∙ rw (map-append Some s.outcomes (o ∷ []), rest) refl;
        }

    pub made : (entry : N → Entry)
        → ((opening : Opening) (link : C) (p : Point C N) → Begins acts seen entry opening link p → (cs : List Command) (os : List Outcome) (q : Point C N) → Run acts asks seen cs p os q → Law seen entry q)
        → (before : Point C N) (i : ℕ) (m : History → Point C N) (told : List (Option Outcome)) → i ≡ min (length commands) (length places) → Sofar before commands places i m told
        → Made acts asks seen entry before commands places m told
    made entry every before i m told n s =
        let long = s.count in
        record {
          history = s.history;
          outcomes = s.outcomes;
          count = long ∙ n;
          run = subst (λ (k : ℕ). Run acts asks seen (take k commands) before s.outcomes (m s.history)) (sym long) s.run;
          tells = subst (λ (k : ℕ). told ≡ map Some s.outcomes ++ drop k places) (sym long) s.tells;
          lawful = λ opening link p earlier heard begins run. every opening link p begins (earlier ++ take i commands) (heard ++ s.outcomes) (m s.history) (joined earlier (take i commands) heard s.outcomes p before (m s.history) run s.run);
        }
