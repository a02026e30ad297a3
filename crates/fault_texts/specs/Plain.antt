-- An explanation has nothing that a terminal acts on except ends of lines. (This project's profile.)
use Rattle.std.specs.Prelude.{◌≡◌, ℕ, ◌==◌, nat_le, ◌&&◌, ◌≤◌, ◌⊎◌, if◌then◌else◌}

-- a printable ASCII character, or a line feed
abbrev pub IsPlain : ℕ → Type 0
IsPlain byte = (byte ≡ 10) ⊎ ((32 ≤ byte) × (byte ≤ 126))

-- what is shown of a byte: a tab as a space, and a byte that isn't plain as a question mark
abbrev pub shown_byte : ℕ → ℕ
shown_byte byte =
    if byte == 10 then 10
    else if byte == 9 then 32
    else if nat_le 32 byte && nat_le byte 126 then byte
    else 63
