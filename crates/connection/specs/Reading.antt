-- The struct of the code, any bytes of which C may lend, read as the record of the rules.
-- Assumes nothing.
use Rattle.std.specs.Prelude.{Bool, false, cond, not, ◌&&◌, ℕ, eqb, leb}
use Rattle.protocol.specs.Connection as rules
use Rattle.connection.specs.declared.Connection.{Connection}
use Rattle.connection.specs.declared.role.Role.{Role}
use Rattle.connection.specs.declared.role.Role.TheVariants.{Client, Server}

-- a byte as a flag: 0 for no, anything else for yes
abbrev pub flag : ℕ → Bool
flag x = not (eqb x 0)

-- and a flag as the library stores it
abbrev pub bit_of : Bool → ℕ
bit_of b = cond b 1 0

-- the enum of the code
abbrev pub role_in : Role → rules.Role
role_in Client = rules.client
role_in Server = rules.server

-- 0 for a client, 1 for a server
abbrev pub role_of : ℕ → rules.Role
role_of r = cond (eqb r 0) rules.client rules.server

-- a role above 1 or a spare byte other than 0: nothing was agreed, so that a stray byte never picks a key
abbrev pub agreed : Connection → Bool
agreed c = flag c.encryption && leb c.role 1 && eqb c.spare 0

abbrev pub connection_of : Connection → rules.Connection
connection_of c =
    record { role = role_of c.role; dialect = c.dialect; encryption = agreed c; cipher = c.cipher; constrained = flag c.constrained }

-- what a call under one given key is told of its connection, as numbers: the role, where any number above 1 means that nothing was agreed,
-- the dialect, encryption (0 for off, anything else for on) and the cipher. Such a call does not look at the constraint
abbrev pub under_key : ℕ → ℕ → ℕ → ℕ → rules.Connection
under_key role dialect encryption cipher =
    record { role = role_of role; dialect = dialect; encryption = flag encryption && leb role 1; cipher = cipher; constrained = false }
