-- The texts of replies are ASCII, so they are UTF-8.
use Rattle.std.proofs.Common.{◌≡◌, ℕ, List, [], ◌∷◌, ◌++◌, true, codes, nat_lt, get_or, IsUtf8, refl}
use Rattle.std.proofs.Common.{arith}
use Rattle.std.specs.List.{list_all}
use Rattle.std.specs.Str.{IsAscii}
use Rattle.std.proofs.lemmas.Bool.{ltb-true}
use Rattle.std.proofs.lemmas.Str.{IsAscii-append, IsUtf8-from_ascii}
use Rattle.std.proofs.lemmas.Str.Ascii.{IsAscii-nil, IsAscii-cons, IsAscii-from_all}
use Rattle.std.proofs.lemmas.List.Sums.{AllPass-from_list_all}
use Rattle.hex.specs.Hex.{encode_lower, lower_digits}
use Rattle.hex.proofs.HexLemmas.{IsAscii-encode_with}
use Rattle.zarr_model.specs.Prelude.{Element, of_bytes, null, some, Refusal, refusal_name, Reply, elements, done}
use Rattle.zarr_model.specs.Prelude.{refused}
use Rattle.zarr_model.specs.Command.{incompatible_dimensionality, subset_out_of_bounds, region_too_large}
use Rattle.zarr_model.specs.Command.{expected_fixed_length_bytes, expected_variable_length_bytes}
use Rattle.zarr_model.specs.Command.{expected_optional_bytes, invalid_mask, unexpected_chunk_decoded_size}
use Rattle.zarr_model.specs.Command.{invalid_variable_sized_array_offsets, element_too_long}
use Rattle.zarr_cli_runs.specs.lines.Text.{element_text, elements_text, reply_text}

-- a text all of whose bytes pass the test
plain : (text : List ℕ) → list_all (λ b. nat_lt b 128) text ≡ true → IsAscii text
plain text passes = IsAscii-from_all text
    (λ i d h. ltb-true (get_or text i d) 128 (AllPass-from_list_all (λ b. nat_lt b 128) text passes i d h))

element_ascii : (element : Element) → IsAscii (element_text element)
element_ascii (of_bytes value) = IsAscii-cons 104 (encode_lower value) (omega arith)
    (IsAscii-encode_with lower_digits value (plain lower_digits refl))
element_ascii null = plain (codes "-") refl
element_ascii (some element) = IsAscii-cons 43 (element_text element) (omega arith) (element_ascii element)

elements_ascii : (list : List Element) → IsAscii (elements_text list)
elements_ascii [] = IsAscii-nil
elements_ascii (element ∷ list) = IsAscii-cons 32 (element_text element ++ elements_text list) (omega arith)
    (IsAscii-append (element_text element) (elements_text list) (element_ascii element) (elements_ascii list))

name_ascii : (why : Refusal) → IsAscii (refusal_name why)
name_ascii incompatible_dimensionality = plain (refusal_name incompatible_dimensionality) refl
name_ascii subset_out_of_bounds = plain (refusal_name subset_out_of_bounds) refl
name_ascii region_too_large = plain (refusal_name region_too_large) refl
name_ascii expected_fixed_length_bytes = plain (refusal_name expected_fixed_length_bytes) refl
name_ascii expected_variable_length_bytes = plain (refusal_name expected_variable_length_bytes) refl
name_ascii expected_optional_bytes = plain (refusal_name expected_optional_bytes) refl
name_ascii invalid_mask = plain (refusal_name invalid_mask) refl
name_ascii unexpected_chunk_decoded_size = plain (refusal_name unexpected_chunk_decoded_size) refl
name_ascii invalid_variable_sized_array_offsets = plain (refusal_name invalid_variable_sized_array_offsets) refl
name_ascii element_too_long = plain (refusal_name element_too_long) refl

reply_ascii : (reply : Reply) → IsAscii (reply_text reply)
reply_ascii (elements list) =
    IsAscii-append (codes "ok") (elements_text list) (plain (codes "ok") refl) (elements_ascii list)
reply_ascii done = plain (codes "done") refl
reply_ascii (refused why) =
    IsAscii-append (codes "refused ") (refusal_name why) (plain (codes "refused ") refl) (name_ascii why)

pub reply_utf8 : (reply : Reply) → IsUtf8 (reply_text reply)
reply_utf8 reply = IsUtf8-from_ascii (reply_text reply) (reply_ascii reply)
