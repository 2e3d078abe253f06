mod Sealing
mod Opening
mod AddingLaws
