-- A request that sets up a pipeline is read as it was meant. Assumes nothing.
use Rattle.std.proofs.Common.{◌≡◌, ℕ, ◌+◌, ◌-◌, ◌^◌, ◌<◌, ◌≤◌, ◌&&◌, eqb, leb, List, [], ◌∷◌, ◌++◌, map, length, get_or, drop, Some, Ok, sym, refl, ap, ◌∙◌, arith}
use Rattle.std.proofs.lemmas.List.{append-nil, length-append, drop_at}
use Rattle.std.proofs.lemmas.Bool.{cond-true, le-leb, eq-eqb, and_from}
use Rattle.std.specs.List.{AllByRecursion}
use Rattle.wire.specs.Fields.{WireField, varint, part, varint_bytes, encode, encode_all}
use Rattle.wire.specs.Laws.{Sound, AllSound, merge_all}
use Rattle.wire.specs.Find.{part_of, number_of}
use Rattle.wire.proofs.Back.{varint_back}
use Rattle.wire.proofs.Encoded.{part_octets}
use Rattle.wire.proofs.Found.{decoded_is, rows_skipped, part_found, number_found, sound_join, sound_rows}
use Rattle.proto.specs.declared.datanode.Datanode.{Datanode}
use Rattle.proto.specs.Messages.{octets_in, info_of, block_fields, header_fields}
use Rattle.request.specs.declared.setup.Setup.{Setup}
use Rattle.request.specs.declared.stage.Stage.{Stage}
use Rattle.request.specs.declared.stage.Stage.TheVariants.{SetupAppend, SetupStreamingRecovery, SetupCreate}
use Rattle.request.specs.declared.write_block.WriteBlock.{WriteBlock}
use Rattle.request.specs.Requests.{checksum_fields, construction_fields, construction_of, write_fields, framed}
use Rattle.request.specs.SetupLaw.{setup_for, Widths}
use Rattle.request.specs.Setups.{no_setup, stamp_in, merge_setup, measured, message_of, well_read, setup_in, setup_of}
use Rattle.request.specs.Stages.{stage_number}
use Rattle.wire.proofs.Lengths.{all_length}
use Rattle.request.proofs.Bounds.{held_bound, block_bound, header_bound, checksum_bound, write_bound}

-- the message behind version, code and length
pub unframed : (code : ℕ) (message : List ℕ) → length message < 2 ^ 64 → message_of code (framed code message) ≡ Some message
unframed code message h =
    let size = varint_bytes (length message) in
    let front = 0 ∷ 28 ∷ code ∷ [] in
    let bs = framed code message in
    let next = 3 + length size in
    let e = length-append size message in
    let ends : length message ≡ length bs - next = omega arith in
    let cut : drop next bs ≡ message = drop_at (front ++ size) message next (omega arith) in
    cond-true (leb 3 (length bs) && (eqb (get_or bs 0 0) 0 && (eqb (get_or bs 1 0) 28 && eqb (get_or bs 2 0) code))) _ _ (and_from _ _ (le-leb 3 (length bs) (omega arith)) (eq-eqb code code refl))
    ∙ ap (measured bs) (varint_back (length message) front message h)
    ∙ cond-true (eqb (length message) (length bs - next)) _ _ (eq-eqb _ _ ends)
    ∙ ap Some cut

-- a part is not longer than what it is written as
part_within : (tag : ℕ) (bs : List ℕ) → length bs ≤ length (encode (part tag bs))
part_within tag bs = omega (arith, part_octets tag bs)

stage_small : (s : Stage) → stage_number s < 2 ^ 64
stage_small SetupAppend = omega arith
stage_small SetupStreamingRecovery = omega arith
stage_small SetupCreate = omega arith

module _ (w : WriteBlock) (fit : Widths w) where
  abbrev block : List ℕ
  block = encode_all (block_fields w.header.block)

  abbrev base_fields : List WireField
  base_fields = part 1 block ∷ part 2 (octets_in w.header.token.now.message) ∷ []

  block_sound : AllSound (block_fields w.header.block)
  block_sound = ((refl, omega (arith, held_bound w.header.block.pool_id)), ((refl, fit.id), ((refl, fit.stamp), ((refl, fit.bytes), tt))))

  base_sound : AllSound base_fields
  base_sound = ((refl, omega (arith, block_bound w.header.block)), ((refl, omega (arith, held_bound w.header.token.now.message)), tt))

  header_sound : AllSound (header_fields w.header)
  header_sound =
      let base = encode_all base_fields in
      let name = part 2 (octets_in w.header.client_name.now) in
      ((refl, omega (arith, header_bound w.header, all_length (part 1 base) (name ∷ []), part_within 1 base)), ((refl, omega (arith, held_bound w.header.client_name.now)), tt))

  checksum_sound : AllSound (checksum_fields w.chunk_size)
  checksum_sound = ((refl, omega arith), ((refl, omega (arith, fit.chunk)), tt))

  types_sound : (ds : List Datanode) → AllByRecursion (λ (d : Datanode). d.storage_type < 2 ^ 8) ds → AllSound (map (λ (d : Datanode). varint 12 d.storage_type) ds)
  types_sound [] h = tt
  types_sound (d ∷ ds) h = ((refl, omega (arith, h.0)), types_sound ds h.1)

  sound : AllSound (write_fields w)
  sound =
      let ts = w.targets.now in
      let c = construction_fields (construction_of w) in
      let k = encode_all (checksum_fields w.chunk_size) in
      let infos = map (λ (d : Datanode). part 2 (info_of d)) ts in
      let types = map (λ (d : Datanode). varint 12 d.storage_type) ts in
      let id = part 16 (octets_in w.first.now.storage_id) in
      let ids = map (λ (d : Datanode). part 17 (octets_in d.storage_id)) ts in
      let rest = part 9 k ∷ (varint 11 w.first.now.storage_type ∷ (types ++ (id ∷ ids))) in
      let ids-sound : AllSound ids = sound_rows (λ (d : Datanode). part 17 (octets_in d.storage_id)) (λ d. (refl, omega (arith, held_bound d.storage_id))) ts in
      let id-sound : Sound id = (refl, omega (arith, held_bound w.first.now.storage_id)) in
      let last : AllSound (types ++ (id ∷ ids)) = sound_join types (id ∷ ids) (types_sound ts fit.others) (id-sound, ids-sound) in
      let rest-sound : AllSound rest = ((refl, omega (arith, checksum_bound w.chunk_size)), ((refl, omega (arith, fit.first)), last)) in
      let c-sound : AllSound c = ((refl, stage_small w.stage), ((refl, omega (arith, w.few)), ((refl, fit.least), ((refl, fit.most), ((refl, fit.latest), tt))))) in
      let infos-sound : AllSound infos = sound_rows (λ (d : Datanode). part 2 (info_of d)) (λ d. (refl, omega (arith, held_bound d.info))) ts in
      ((refl, omega (arith, header_bound w.header)), sound_join infos (c ++ rest) infos-sound (sound_join c rest c-sound rest-sound))

  -- the stamp is in the block, in the base header, in the header
  stamp_is : stamp_in (encode_all (header_fields w.header)) ≡ w.header.block.generation_stamp
  stamp_is =
      ap (λ z. number_of 3 (part_of 1 z)) (part_found 1 (header_fields w.header) (encode_all base_fields) header_sound refl)
      ∙ ap (number_of 3) (part_found 1 base_fields block base_sound refl)
      ∙ number_found 3 (block_fields w.header.block) w.header.block.generation_stamp block_sound refl

  type_is : number_of 1 (encode_all (checksum_fields w.chunk_size)) ≡ 2
  type_is = number_found 1 (checksum_fields w.chunk_size) 2 checksum_sound refl

  chunk_is : number_of 2 (encode_all (checksum_fields w.chunk_size)) ≡ w.chunk_size
  chunk_is = number_found 2 (checksum_fields w.chunk_size) w.chunk_size checksum_sound refl

  -- what is read of the header, and of all that comes before the storages
  abbrev begun : ℕ → Setup
  begun stamp = record no_setup { stamp = stamp }

  abbrev asked : ℕ → ℕ → ℕ → Setup
  asked stamp type chunk = record (setup_for w) { stamp = stamp; checksum_type = type; chunk_size = chunk }

  merged : merge_all merge_setup no_setup (write_fields w) ≡ Ok (setup_for w)
  merged =
      let ts = w.targets.now in
      let h = encode_all (header_fields w.header) in
      let k = encode_all (checksum_fields w.chunk_size) in
      let types = map (λ (d : Datanode). varint 12 d.storage_type) ts in
      let id = part 16 (octets_in w.first.now.storage_id) in
      let ids = map (λ (d : Datanode). part 17 (octets_in d.storage_id)) ts in
      let rest = construction_fields (construction_of w) ++ (part 9 k ∷ (varint 11 w.first.now.storage_type ∷ (types ++ (id ∷ ids)))) in
      let all = asked (stamp_in h) (number_of 1 k) (number_of 2 k) in
      rows_skipped merge_setup (λ (d : Datanode). part 2 (info_of d)) (begun (stamp_in h)) (λ d. refl) ts rest
      ∙ rows_skipped merge_setup (λ (d : Datanode). varint 12 d.storage_type) all (λ d. refl) ts (id ∷ ids)
      ∙ ap (merge_all merge_setup all) (sym (append-nil ids))
      ∙ rows_skipped merge_setup (λ (d : Datanode). part 17 (octets_in d.storage_id)) all (λ d. refl) ts []
      ∙ (λ i. Ok (asked (stamp_is i) (type_is i) (chunk_is i)))

  pub read_as_meant : setup_of (framed 80 (encode_all (write_fields w))) ≡ Some (setup_for w)
  unfolding setup_of
  read_as_meant =
      let m = encode_all (write_fields w) in
      ap setup_in (unframed 80 m (omega (arith, write_bound w w.few)))
      ∙ ap well_read (decoded_is merge_setup no_setup (setup_for w) (write_fields w) sound merged)
