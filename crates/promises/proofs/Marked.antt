-- Every marked case of the list agrees with its rule: one proposition, computed.
use mathlib.Core.Path.{◌≡◌, refl}
use mathlib.Core.List.{map}
use Rattle.lists.specs.Lists.{span, joined, per_row}
use Rattle.lists.specs.Sums.{back}
use Rattle.checks.specs.Checks.{verdict}
use Rattle.seen.specs.Seen.{arrived, came_in, four, inside, two, whole}
use Rattle.geometry.specs.Geometry.{rows_of, byte_segment, byte_local}
use Rattle.tags.specs.Slots.{defaults}
use Rattle.profile.specs.Profile.{format_with, slot_number, head_in, shape_of}
use Rattle.entries.specs.Values.{in_field, place_of, size_of, word_at}
use Rattle.picture.specs.Picture.{picture_of}
use Rattle.plan.specs.Plan.{place_checks}
use Rattle.logluv_segment.specs.Segment.{stored, stored_checks}
use Rattle.showing.specs.Shown.{shown}
use Rattle.quality.specs.Quality.{quality_is}
use Rattle.packets.specs.Packets.{len_of, payload_of, room_of, packet_checks, piece, expand, range_checks}
use Rattle.pixel.specs.Luv.{uv, pixel, pixel_at, row_pixels, pixels}
use Rattle.words64.specs.Words64.{number_from, digits, word}
use Rattle.rows64.specs.Rows64.{value, sample, row64}
use Rattle.float64.specs.Float64.{samples}
use Rattle.fp_rows.specs.FpRows.{summed_row, gathered_row}
use Rattle.native_fp.specs.NativeFp.{summed, gathered}
use Rattle.promises.specs.Marked.{Case, cases}

pub marked : map (λ (c : Case). c.gives) cases ≡ map (λ (c : Case). c.says) cases
unfolding cases arrived came_in four inside two whole format_with in_field place_of size_of word_at picture_of place_checks stored stored_checks shown
    quality_is rows_of byte_segment byte_local defaults slot_number head_in shape_of span joined per_row back verdict len_of payload_of room_of packet_checks
    piece expand range_checks uv pixel pixel_at row_pixels pixels number_from digits word value sample row64 samples summed_row gathered_row summed gathered
marked = refl
