-- Whole numbers in decimal.
use Rattle.std.specs.Prelude.{ℕ, ◌^◌, ◌&&◌, nat_lt, if◌then◌else◌, List, decimal, bytes_eq, Option, Some, None}
use Rattle.std.specs.Str.Parse.{digits_value}

-- a number below 2 ^ 64 in decimal, without sign or leading zero
abbrev pub number_of : List ℕ → Option ℕ
number_of text = let number = digits_value 10 text in
    if bytes_eq (decimal number) text && nat_lt number (2 ^ 64) then Some number else None
