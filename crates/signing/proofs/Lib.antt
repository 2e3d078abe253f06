pub mod SigningLaws
