pub mod CipherLaws
