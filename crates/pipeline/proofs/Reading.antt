-- The rows of a namenode's list, read one by one. Assumes nothing.
use Rattle.std.proofs.Common.{◌≡◌, ℕ, zero, suc, ◌+◌, ◌<◌, ◌≤◌, true, false, ◌&&◌, List, [], ◌∷◌, ◌++◌, map, length, get_or, take, drop, Some, None, sym, refl, ap, ◌∙◌, arith}
use Rattle.std.proofs.lemmas.List.{take_more, take_all, at_drop_more, at_drop_all}
use Rattle.proto.specs.declared.datanode.Datanode.{Datanode}
use Rattle.namenode.specs.Entries.{Row, row_at}
use Rattle.pipeline.specs.Offers.{node_row, row_in_form, rows_in_form, RowsRead}

pub map_push : (ds : List Datanode) (d : Datanode) → map node_row (ds ++ d ∷ []) ≡ map node_row ds ++ node_row d ∷ []
map_push [] d = refl
map_push (e ∷ ds) d = ap (λ z. node_row e ∷ z) (map_push ds d)

-- a row that is there
pub found : (rows : List Row) (i : ℕ) (x : Row) → Some x ≡ row_at rows i → x ≡ get_or rows i x
found [] i x e = absurd (let z : ◌≡◌ {A = ℕ} 0 1 = cc in omega arith)
found (r ∷ rows) zero x e = cc
found (r ∷ rows) (suc i) x e = found rows i x e

pub missing : (rows : List Row) (i : ℕ) → None ≡ row_at rows i → i < length rows → ⊥
missing [] i e h = omega arith
missing (r ∷ rows) zero e h = let z : ◌≡◌ {A = ℕ} 0 1 = cc in omega arith
missing (r ∷ rows) (suc i) e h = missing rows i e (omega arith)

-- x is the row at i
module _ (rows : List Row) (i : ℕ) (x : Row) (h : i < length rows) (e : x ≡ get_or rows i x) (inv : rows_in_form (drop i rows) ≡ rows_in_form rows) where
  one : row_in_form x && rows_in_form (drop (i + 1) rows) ≡ rows_in_form rows
  one = ap (λ r. row_in_form r && rows_in_form (drop (i + 1) rows)) e ∙ sym (at_drop_more rows_in_form rows i x h) ∙ inv

  pub out_of_form : row_in_form x ≡ false → rows_in_form rows ≡ false
  out_of_form q = sym one ∙ ap (λ b. b && rows_in_form (drop (i + 1) rows)) q

  pub goes_on : row_in_form x ≡ true → rows_in_form (drop (i + 1) rows) ≡ rows_in_form rows
  goes_on q = sym (ap (λ b. b && rows_in_form (drop (i + 1) rows)) q) ∙ one

  pub one_more : (ds es : List Datanode) (d : Datanode) → map node_row ds ≡ take i rows → node_row d ≡ x → es ≡ ds ++ d ∷ [] → map node_row es ≡ take (i + 1) rows
  one_more ds es d m n p = ap (map node_row) p ∙ map_push ds d ∙ (λ k. m k ++ (n ∙ e) k ∷ []) ∙ sym (take_more rows i x h)

pub all_read : (rows : List Row) (i : ℕ) (ds : List Datanode) → length rows ≤ i → rows_in_form (drop i rows) ≡ rows_in_form rows → map node_row ds ≡ take i rows → RowsRead rows ds true
all_read rows i ds h f m = (sym f ∙ at_drop_all rows_in_form rows i h, m ∙ take_all i rows h)
