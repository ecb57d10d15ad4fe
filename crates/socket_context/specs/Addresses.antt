-- The tests of addresses, as truth values.
pub use Rattle.ip_wire.specs.AddressTests.{is_unspecified, is_multicast, are_of_one_family, is_same_address}
