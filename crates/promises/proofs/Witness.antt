-- The witnesses of specs/Witness.antt: both readings accept them, by computing.
use mathlib.Core.Path.{◌≡◌, refl}
use mathlib.Core.List.{[], ◌∷◌, ◌++◌}
use Rattle.lists.specs.Lists.{joined, overlay, per_row, span}
use Rattle.head.specs.Heads.{Head, colour_head, mono_head, bytes_of, channels_of}
use Rattle.checks.specs.Checks.{run, verdict}
use Rattle.seen.specs.Seen.{arrived, block_came, came_in, four, inside, two, whole, Seen, seen}
use Rattle.geometry.specs.Geometry.{byte_local, byte_segment, rows_of}
use Rattle.header.specs.Header.{begins, header_checks, order_checks}
use Rattle.directory.specs.Directory.{count_checks, directory_checks}
use Rattle.tags.specs.Tags.{entry_of, fresh, index_in, slots_in, tags_fine}
use Rattle.tags.specs.Slots.{defaults, known}
use Rattle.tiff.specs.Walk.{page_at, walk_checks}
use Rattle.entries.specs.Values.{has_values, in_field, numeric, place_of, size_of, word_at}
use Rattle.packets.specs.Packets.{expand, len_of, packet_checks, payload_of, piece, room_of}
use Rattle.pixel.specs.Luv.{pixel, pixel_at, pixels, row_pixels, uv}
use Rattle.picture.specs.Picture.{picture_of}
use Rattle.plan.specs.Plan.{area_checks, place_checks, plan_checks}
use Rattle.profile.specs.Profile.{carries, each_is, format_with, numbers_of, profile_checks, scalar_checks, scalar_fine, scalars, shape_of, slot_number, has_head, head_in, step2, step3, step4, step5, step6, step7, step8, sample_checks}
use Rattle.front.specs.Front.{front_checks, format_seen}
use Rattle.logluv_segment.specs.Segment.{each_segment, fees_of, segment_checks, stored, stored_checks}
use Rattle.showing.specs.Shown.{shown}
use Rattle.quality.specs.Quality.{quality_is, shows_of}
use Rattle.inspection.specs.Inspection.{inspect_checks, segments_checks}
use Rattle.decoding.specs.Strict.{both_checks}
use Rattle.admission.specs.Admission.{buffer_checks, charges_of, patchy_checks}
use Rattle.promises.specs.Witness.{two_pixels, least_file, least_limits, units_for, lent_output, lent_scratch, strict_outcome, with_map, patchy_outcome, buffers_say, GoodAndBlank}
use Prim.Native.Nat.{ℕ, zero, suc, ◌+◌, ◌*◌, ◌<◌}
use mathlib.Core.Bool.{true, false}
use Rattle.picture.specs.declared.Format.{Format}
use Rattle.marking.specs.Marks.{codes_of}
use Rattle.promises.specs.Patchy.{output_then}
use native.Mathlib.Omega.{arith}
use lib.ListN.{length, get_or}
use Rattle.std.specs.Prelude.{Ok}

module _ (head : Head) where
  -- the format of its page, in either view
  abbrev least_format : Format
  least_format = record {
    width = 2;
    height = 1;
    block_width = 2;
    block_height = 1;
    tiled = false;
    across = 1;
    segments = 1;
    output = bytes_of head * 2;
    big = false;
    offsets = 70;
    counts = 94;
    entries = 9;
    mono = head;
  }

  -- the file read whole, and with its map
  abbrev view_of_whole : Seen
  view_of_whole = seen (least_file head) []

  abbrev map_view : Seen
  map_view = seen (least_file head) (1 ∷ [])

  -- what is computed of it, whole and mapped: its format; every check passes and all units are taken; the picture, and the code of its one segment
  record Computed : Type 0 where
    format_whole : format_seen view_of_whole 0 ≡ least_format
    format_mapped : format_seen map_view 0 ≡ least_format
    told_whole : run (both_checks view_of_whole 0 (least_limits head) (length (lent_output head)) (length (lent_scratch head))) (units_for head 2) ≡ Ok 0
    told_mapped :
        run (patchy_checks map_view 1 0 (least_limits head) (record { output = length (lent_output head); scratch = length (lent_scratch head); quality = 2 }))
        (units_for head 1) ≡ Ok 0
    picture_whole : picture_of least_format (shown view_of_whole least_format) ≡ two_pixels head
    picture_mapped : picture_of least_format (shows_of map_view least_format) ≡ two_pixels head
    codes_mapped : codes_of map_view least_format ≡ 1 ∷ []

computed : (head : Head) → Computed head
unfolding segments_checks joined overlay per_row span run verdict arrived block_came came_in four inside two whole byte_local byte_segment rows_of begins
    header_checks order_checks count_checks directory_checks entry_of fresh index_in slots_in tags_fine defaults known page_at walk_checks has_values in_field
    numeric place_of size_of word_at expand len_of packet_checks payload_of piece room_of pixel pixel_at pixels row_pixels uv picture_of area_checks
    place_checks plan_checks carries each_is format_with numbers_of profile_checks scalar_checks scalar_fine scalars shape_of slot_number has_head
    head_in step2 step3 step4 step5 step6 step7 step8 sample_checks front_checks each_segment fees_of segment_checks shown stored
    stored_checks quality_is inspect_checks both_checks buffer_checks charges_of patchy_checks least_file
computed false = record {
  format_whole = refl;
  format_mapped = refl;
  told_whole = refl;
  told_mapped = refl;
  picture_whole = refl;
  picture_mapped = refl;
  codes_mapped = refl;
}
computed true = record {
  format_whole = refl;
  format_mapped = refl;
  told_whole = refl;
  told_mapped = refl;
  picture_whole = refl;
  picture_mapped = refl;
  codes_mapped = refl;
}

-- strict: nothing is refused and no unit is left; with a map: the same, with the sizes 2 by 1 in one block, and the one segment good
abbrev Accepted : Head → Type 0
Accepted head =
    (strict_outcome head ≡ (0 ∷ 0 ∷ []) ++ buffers_say head)
    × (patchy_outcome head ≡ (0 ∷ 0 ∷ 2 ∷ 1 ∷ 2 ∷ 1 ∷ 1 ∷ channels_of head ∷ []) ++ (buffers_say head ++ (1 ∷ 0 ∷ [])))

pub accepted_picture : (head : Head) → Accepted head
unfolding overlay
accepted_picture false = let c = computed colour_head in (
  rw (c.told_whole, c.format_whole, c.picture_whole) refl,
  rw (c.told_mapped, c.format_mapped, c.picture_mapped, c.codes_mapped) refl,
)
accepted_picture true = let c = computed mono_head in (
  rw (c.told_whole, c.format_whole, c.picture_whole) refl,
  rw (c.told_mapped, c.format_mapped, c.picture_mapped, c.codes_mapped) refl,
)

-- the monochrome witness is such a one
pub mono_good_blank : GoodAndBlank
unfolding overlay
mono_good_blank = let c = computed mono_head in
    record {
      call = with_map mono_head;
      sizes = record { width = 2; height = 1; block_width = 2; block_height = 1; segments = 1; channels = 1 };
      units = 0;
      answered = rw (c.told_mapped, c.format_mapped);
      mono = refl;
      pixel_of = (omega arith, omega arith);
      good = rw (c.told_mapped, c.format_mapped, c.codes_mapped);
      blank = zeros;
    }
  where
    zeros : (b : ℕ) → b < 2 → get_or (output_then (with_map mono_head)) (0 + b) 0 ≡ 0
    zeros zero h = rw ((computed mono_head).told_mapped, (computed mono_head).format_mapped, (computed mono_head).picture_mapped)
    zeros (suc zero) h = rw ((computed mono_head).told_mapped, (computed mono_head).format_mapped, (computed mono_head).picture_mapped)
    zeros (suc (suc b)) h = absurd (omega arith)
